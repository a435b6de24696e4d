-- What the proofs use from other crates, and from this crate's definitions.
pub use Rattle.std.proofs.Common.{[], ap, append_assoc, arith, Bool, cond, drop, Err, false, get_or, get_or-drop, get_or-take, if◌then◌else◌, inl, inr, length, length-append, length-drop, length-take-le, List, nat_lt, Ok, Option, refl, replicate, Result, rules, subst, suc, sym, take, take-append-drop, true, true≢false, zero, ℕ, ⊎_elim, ◌++◌, ◌+◌, ◌-◌, ◌<◌, ◌==◌, ◌||◌, ◌∙◌, ◌∷◌, ◌≡◌, ◌≢◌, ◌≤◌, ◌⊎◌}
pub use Rattle.std.proofs.KnownBytes.{Appends-nil, Appends-trans, Consumes-nil, Consumes-trans}
pub use Rattle.std.proofs.Math.Seq.{take-add, take-append-add, take-append_seam}
pub use Rattle.std.proofs.lemmas.Bool.{cases_Bool, cases_lt, eqb-true}
pub use Rattle.std.proofs.lemmas.Grind.{common_steps}
pub use Rattle.std.proofs.lemmas.List.{append-nil, drop-drop, drop_more, length-replicate, length-take, nil_from_length, replicate-append-replicate, take-append-le, take-take, take_all, take_rest}
pub use Rattle.std.proofs.lemmas.List.Elements.{All-cons, All-head, All-nil, All-tail}
pub use Rattle.std.proofs.lemmas.List.Folds.{list_any-append}
pub use Rattle.std.specs.List.{All, list_any}
pub use Rattle.memchr.specs.Find.{is_byte, NoneBefore, Nowhere, Passes}
pub use borrow.Rule.Slice.PartMut.{post_of, put_mid, same_len_mid}
pub use Rattle.bcs_io.specs.Advancing.{IsTooLong, RunsOut, TakesLine}
pub use Rattle.bcs_io.specs.Blocks.{GivesBlock, ReadsBlock}
pub use Rattle.bcs_io.specs.Giving.{Gave, GaveThenFailed}
pub use Rattle.bcs_io.specs.Held.{HeldLine, IsFirstLineFeed}
pub use Rattle.bcs_io.specs.Laws.{ended, LinesGiveTextBack, LinesHaveNoLineFeed}
pub use Rattle.bcs_io.specs.Lines.{before_block, block_size, HasNoLineFeed, line_feeds, lines_of, onto}
pub use Rattle.bcs_io.specs.Taking.{Took, TookThenFailed}
pub use Rattle.bcs_io.specs.declared.next_fault.NextFault.{NextFault}
pub use Rattle.bcs_io.specs.declared.next_fault.NextFault.TheVariants.{OutOfMemory, Read, TooLong}
