-- What became of FILE.
use Rattle.std.specs.Prelude.{IfErr, IfOk, Option, Result, Ok, Err}
use Rattle.std.proofs.Common.{◌≡◌, ◌⊎◌, ◌∙◌, ℕ, Bool, List, ap, false, inl, inr, length, subst, sym, take, true}
use Rattle.std.proofs.Math.Seq.{take-length}
use Rattle.std.specs.Io.KnownBytes.{Appends}
use Rattle.bcs_tool.specs.OutputFile.{IsCommitted, IsCommittedInPart, IsPut, IsPutInPart, Receives, Stage, beside, emptied, renamed, replaced, synced, unsynced}

-- all calls succeeded
pub stored_stage : (empty last : Stage) (name : List ℕ) → (empty ≡ beside false name) ⊎ (empty ≡ emptied name)
    → last ≡ renamed (synced (unsynced empty)) → (last ≡ replaced true name) ⊎ (last ≡ emptied name)
stored_stage empty last name (inl h) next = inl (next ∙ ap (λ (at : Stage). renamed (synced (unsynced at))) h)
stored_stage empty last name (inr h) next = inr (next ∙ ap (λ (at : Stage). renamed (synced (unsynced at))) h)

-- a call failed
pub unstored_stage : (empty last : Stage) (name : List ℕ) → (empty ≡ beside false name) ⊎ (empty ≡ emptied name)
    → (last ≡ unsynced empty) ⊎ (last ≡ synced (unsynced empty)) → ((is_synced : Bool) × (last ≡ beside is_synced name)) ⊎ (last ≡ emptied name)
unstored_stage empty last name (inl h) (inl next) = inl (false, next ∙ ap unsynced h)
unstored_stage empty last name (inl h) (inr next) = inl (true, next ∙ ap (λ (at : Stage). synced (unsynced at)) h)
unstored_stage empty last name (inr h) (inl next) = inr (next ∙ ap unsynced h)
unstored_stage empty last name (inr h) (inr next) = inr (next ∙ ap (λ (at : Stage). synced (unsynced at)) h)

-- all bytes were written, and then a call failed
part_stage : (old mid new : Stage) → mid ≡ unsynced old → (new ≡ mid) ⊎ (new ≡ synced mid) → (new ≡ unsynced old) ⊎ (new ≡ synced (unsynced old))
part_stage old mid new next (inl h) = inl (h ∙ next)
part_stage old mid new next (inr h) = inr (h ∙ ap synced next)

module _ {T : Type 0} (stage : T → Stage) (received : T → Option (List ℕ)) {A E : Type 0} (bytes : List ℕ) (old mid new : T) (got : Receives stage received bytes old mid) where
  -- all bytes were written, and then the file got its name
  pub put_all : (r : Result A E) → IfOk r (λ (x : A). IsCommitted stage received mid new) → IfOk r (λ (x : A). IsPut stage received bytes old new)
  put_all (Ok x) is = record {
    appended = subst (λ (known : Option (List ℕ)). Appends (received old) known bytes) (sym is.1) got.appended;
    next = is.0 ∙ ap (λ (at : Stage). renamed (synced at)) got.next;
  }
  put_all (Err e) is = tt

  -- all bytes were written, and then a call failed
  pub put_part : (r : Result A E) → IfErr r (λ (e : E). IsCommittedInPart stage received mid new) → IfErr r (λ (e : E). IsPutInPart stage received bytes old new)
  put_part (Ok x) is = tt
  put_part (Err e) is =
      let all : Appends (received old) (received mid) (take (length bytes) bytes) =
      subst (λ (text : List ℕ). Appends (received old) (received mid) text) (sym (take-length bytes)) got.appended in
      record {
        n = length bytes;
        appended = subst (λ (known : Option (List ℕ)). Appends (received old) known (take (length bytes) bytes)) (sym is.1) all;
        next = part_stage (stage old) (stage mid) (stage new) got.next is.0;
      }
