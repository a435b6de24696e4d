use Rattle.bcs_io.proofs.Prelude.{◌≡◌, List, ℕ, length, drop, ap, ◌∙◌, subst, Nowhere, NoneBefore, Passes, is_byte, HeldLine}
use Rattle.bcs_io.proofs.Searching.{searched_part, searched_none, searched_found}
use Rattle.bcs_io.proofs.line_buffer.LineBuffer.find_line_feed.Goals as goal

pub returns-in_err-place : goal.returns-in_err-place
returns-in_err-place c =
    let all = c.deref.result.now in
    let bytes = c.args.self.now.rest in
    let next = c.self.inside.next in
    let rest : drop next all ≡ bytes = ap (drop next) c.deref.ensures.value ∙ ap (λ (h : HeldLine). h.rest) c.self.view_is in
    rw c.from_residual.ensures (searched_none bytes c.args.searched c.requires.within c.requires.plain
    (subst (λ (l : List ℕ). Nowhere (Passes (is_byte 10) l) 0 (length l)) (searched_part all bytes next c.args.searched rest) c.in_err-place.ensures))

pub returns : goal.returns
returns c =
    let all = c.deref.result.now in
    let bytes = c.args.self.now.rest in
    let next = c.self.inside.next in
    let rest : drop next all ≡ bytes = ap (drop next) c.deref.ensures.value ∙ ap (λ (h : HeldLine). h.rest) c.self.view_is in
    let found = subst (λ (l : List ℕ). NoneBefore (Passes (is_byte 10) l) 0 (length l) c.in_ok-place.place × Passes (is_byte 10) l c.in_ok-place.place)
    (searched_part all bytes next c.args.searched rest) c.in_ok-place.ensures in
    searched_found bytes c.args.searched c.requires.within c.requires.plain c.in_ok-place.place found.0 found.1
