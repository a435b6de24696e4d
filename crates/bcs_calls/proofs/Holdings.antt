-- The machine value of a handle, taken apart and put together, and the two cases of what it owns.
use Rattle.bcs_calls.proofs.Steps.{◌≡◌, ℕ, List, [], ◌∷◌, ◌++◌, refl, subst, lit<, true, ◌&&◌, T, Ura, bare, impl, tnil, dnil, ty_ptr, Val, vstruct, of_list, has_ty, WT, Fml, full_share, ent, guard, guard_i, via, fst∗, snd∗, never, Logic, sem, Item, Goal, Seq, Step, step, ‵, given, ◌$◌, move, drop, fsplit, fjoin, fpick, fpack, learn, use1, feq_i, feq_l, fact_use, RawPtr, lone, layout, Laws, RattleType, Valss, Ptr, block_ptr, null_ptr, ptr_val, lies_at, in_a_block, Testable, nothing, shape, to, within, Al, handle_tells, Good, dealloc_token-Testable, and_tt, box_owns, Global, Option, None, Some}
use Rattle.std.proofs.alloc.Global.TheLaws as heap_laws
use Rattle.std.specs.contracts.alloc.Global as heap
use Rattle.bcs_calls.proofs.Prelude.{ghosts, holds, Handle}
use Rattle.bcs_calls.specs.contracts.open_registry.OpenRegistry as opened
use Rattle.bcs_calls.proofs.RawBoxes as raw
use Rattle.bcs_calls.proofs.RawBoxes.{both}
use Rattle.bcs_calls.specs.contracts.handle.Handle as handle

-- the types of an open registry, of the allocator with its laws, and of a box of an open registry as a raw pointer
abbrev pub R : RattleType
R = opened.the_row

abbrev pub Z : RattleType
Z = heap.the_row

abbrev pub L : Laws Z
L = heap_laws.the_row_laws

abbrev pub RawBox : RattleType
RawBox = raw.RawBox R Z L ghosts

abbrev pub allocator : Al
allocator = record { row = Z; laws = L; g = ghosts; d = impl [] tnil dnil; drops = impl [] tnil dnil }

pub handle_good : (p : Ptr) (h : Val) → Good (layout Z) h → T (has_ty ty_ptr (ptr_val p) && (has_ty (layout Z) h && true)) × WT (both (ptr_val p) h)
handle_good (block_ptr b o) h fits = (and_tt (has_ty (layout Z) h) fits.0, (tt, (fits.1, tt)))
handle_good null_ptr h fits = (and_tt (has_ty (layout Z) h) fits.0, (record { fits = lit< tt }, (fits.1, tt)))

module _ {M : Type 1} {𝓤 : Ura M} {𝓛 : Logic 𝓤} {K : Type 0} {Γ : List (Item 𝓤)} {G : Goal 𝓤 𝓛.H} where
  pub handle_out : K → (d : Handle) (vs : List Val)
      → ((h : Val) → vs ≡ both (ptr_val d.pointer) h ∷ [] → Good (layout Z) h → Seq K 𝓛 (‵ (holds d.alloc d.pointer d.registry) ∷ ‵ (Z.own_val d.alloc (h ∷ [])) ∷ Γ) G)
      → Seq K 𝓛 (‵ (handle.the_row.own_val d vs) ∷ Γ) G
  handle_out t d vs k =
      fsplit t $ fpick t (λ vss. fsplit t $ feq_l t (λ ev. fsplit t $ feq_l t (λ ep. fsplit t $
      handle_tells allocator t d.alloc vss.1.0 (λ h eh fits. move t (1 ∷ []) $ drop t $ move t (1 ∷ []) $ k h
      (subst (λ (hs : List Val). vs ≡ vstruct (of_list (ptr_val d.pointer ∷ (hs ++ []))) ∷ []) eh
      (subst (λ (ps : List Val). vs ≡ vstruct (of_list (ps ++ (vss.1.0 ++ []))) ∷ []) ep ev)) fits))))

  pub handle_in : K → (d : Handle) (h : Val)
      → Step K 𝓛 (‵ (handle.the_row.own_val d (both (ptr_val d.pointer) h ∷ [])) ∷ Γ) G (‵ (holds d.alloc d.pointer d.registry) ∷ ‵ (Z.own_val d.alloc (h ∷ [])) ∷ Γ) G
  handle_in t d h = step (λ s. let p : Val = ptr_val d.pointer in let v : Val = both p h in
      nothing t $ move t (2 ∷ 0 ∷ []) $ fjoin t $ feq_i t (List Val) (p ∷ []) (p ∷ []) refl $ fjoin t $ feq_i t (List Val) (v ∷ []) (v ∷ []) refl $ fjoin t $
      fpack t (Valss (RawPtr ∷ Z ∷ [])) (within (shape handle.the_type) (to handle.the_type d) (v ∷ [])) (p ∷ [], (h ∷ [], tt)) $ fjoin t $ s)

abbrev boxed : Global → Ptr → R.Denot → Fml
boxed alloc = box_owns (ghosts.dealloc_token alloc) R

-- a box's pointer may be compared with null, since it is the start of its block
tested : {M : Type 1} {𝓤 : Ura M} (𝓛 : Logic 𝓤) (alloc : Global) (p : Ptr) (x : R.Denot) → ent 𝓤 (sem 𝓛 (boxed alloc p x)) (guard 𝓤 (Testable p) (sem 𝓛 (boxed alloc p x)))
tested {𝓤 = 𝓤} 𝓛 alloc p x =
    fact_use 𝓤 (Testable p)
    (via 𝓤 _ (snd∗ 𝓤 (sem 𝓛 (lies_at R full_share p x)) (sem 𝓛 (ghosts.dealloc_token alloc (bare (lone R.mir)) p))) (dealloc_token-Testable 𝓛 alloc (bare (lone R.mir)) p))
    (guard_i 𝓤 (Testable p) (sem 𝓛 (boxed alloc p x)))

module _ {M : Type 1} {𝓤 : Ura M} {𝓛 : Logic 𝓤} {K : Type 0} {Γ : List (Item 𝓤)} {G : Goal 𝓤 𝓛.H} where
  -- null, or a block with the registry
  pub either : K → (alloc : Global) (p : Ptr) (held : Option R.Denot)
      → (p ≡ null_ptr → held ≡ None → Seq K 𝓛 Γ G)
      → ((b o : ℕ) (x : R.Denot) → p ≡ block_ptr b o → held ≡ Some x → Testable (block_ptr b o) → Seq K 𝓛 (‵ (boxed alloc (block_ptr b o) x) ∷ Γ) G)
      → Seq K 𝓛 (‵ (holds alloc p held) ∷ Γ) G
  either t alloc p None at_null at_block = feq_l t (λ e. at_null e refl)
  either t alloc p (Some x) at_null at_block =
      in_a_block t p (λ q. boxed alloc q x) (fst∗ 𝓤 (never 𝓤) (sem 𝓛 (ghosts.dealloc_token alloc (bare (lone R.mir)) null_ptr))) (λ b o e.
      use1 𝓛 (given (Testable (block_ptr b o)) (‵ (boxed alloc (block_ptr b o) x))) (tested 𝓛 alloc (block_ptr b o) x) $ learn t (λ is. at_block b o x e refl is))
