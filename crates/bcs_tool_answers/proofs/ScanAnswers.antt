-- Scanning bytes gives exactly one count, or one reason and place of a stop.
use Rattle.bcs_tool_answers.proofs.Prelude.{◌≡◌, ◌⊎◌, inl, inr, ℕ, List, Bool, false, length, refl, subst, true, true≢false, Entries, Shape, Bounds, Tree, Accepts, AreBytes, Reason, accepts_once_is, no_two_verdicts_are, no_two_verdicts_of_all_are, some_verdict_is, some_verdict_of_all_is, stops_all_once_is, stops_once_is, ScanStops}

module _ (registry : Entries) (limits : Bounds) (s : Shape) (bytes : List ℕ) where
  -- a value is at the front, and is all of the bytes unless only the front is requested
  abbrev pub Scans : Bool → ℕ → Tree → Type 0
  Scans front n c = Accepts registry limits s bytes n c × (front ≡ false → n ≡ length bytes)

  -- ---- exactly one

  pub some_scan : (front : Bool) → AreBytes bytes → ((n : ℕ) × (c : Tree) × Scans front n c) ⊎ ((e : Reason) × (o : ℕ) × ScanStops front registry limits s bytes e o)
  some_scan true are = elim (some_verdict_is registry limits s bytes are) [
    | inl h ↦ inl (h.0, h.1, (h.2, λ no. absurd (true≢false no)))
    | inr h ↦ inr h
  ]
  some_scan false are = elim (some_verdict_of_all_is registry limits s bytes are) [
    | inl h ↦ inl (length bytes, h.0, (h.1, λ _. refl))
    | inr h ↦ inr h
  ]

  pub not_scanned : (front : Bool) (n : ℕ) (c : Tree) (e : Reason) (o : ℕ) → Scans front n c → ScanStops front registry limits s bytes e o → ⊥
  not_scanned true n c e o h k = no_two_verdicts_are registry limits s bytes n c e o h.0 k
  not_scanned false n c e o h k =
      no_two_verdicts_of_all_are registry limits s bytes c e o (subst (λ (m : ℕ). Accepts registry limits s bytes m c) (h.1 refl) h.0) k

  pub one_count : (front : Bool) (n m : ℕ) (c d : Tree) → Scans front n c → Scans front m d → n ≡ m
  one_count front n m c d h k = (accepts_once_is registry limits s bytes n m c d h.0 k.0).0

  pub one_scan_stop : (front : Bool) (e g : Reason) (o i : ℕ) → ScanStops front registry limits s bytes e o → ScanStops front registry limits s bytes g i
      → (e ≡ g) × (o ≡ i)
  one_scan_stop true e g o i h k = stops_once_is registry limits s bytes e g o i h k
  one_scan_stop false e g o i h k = stops_all_once_is registry limits s bytes e g o i h k
