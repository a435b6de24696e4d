-- Names from other crates and from this crate's definitions that the proofs share.
pub use Rattle.std.proofs.Common.{[], ap, ap₂, arith, drop, Err, false, inl, inr, length, length-drop, List, None, Ok, Option, refl, rules, Some, subst, suc, sym, take, zero, ℕ, ◌<◌, ◌∙◌, ◌∷◌, ◌≡◌}
pub use Rattle.std.proofs.lemmas.List.{drop_at, get_or_default, length-take}
pub use Rattle.std.proofs.lemmas.Result.{err_from_is_err_and}
pub use Rattle.std.specs.Io.KnownBytes.{Consumes, IsAtEnd}
pub use Rattle.bcs_decode_parts.proofs.Skips.{accepted_stands}
pub use Rattle.bcs_decode_parts.specs.declared.ahead.Ahead.{Ahead}
pub use Rattle.bcs_decode_spec.specs.Steps.{skip}
pub use Rattle.bcs_decode_source.proofs.MemoryFaults.{never_lacks}
pub use Rattle.bcs_decode_source.proofs.SourceSteps.{Along-gave}
pub use Rattle.bcs_decode_source.proofs.StreamedRows.{Found}
pub use Rattle.bcs_decode_source.specs.Reaching.{reaches_no_map}
pub use Rattle.bcs_decode_source.specs.Sees.{Along, FindsFault, GaveFront, Halts, Left, read, rest_of}
pub use Rattle.bcs_decode_source.specs.declared.progress.Progress.{Progress}
pub use Rattle.bcs_decode_spec.proofs.Encoded.{encoded_is_accepted_is, is_decoded, no_encoding_stops}
pub use Rattle.bcs_decode_spec.proofs.Scanned.{found_never, found_only, stopped_never, stopped_only}
pub use Rattle.bcs_decode_spec.proofs.Values.{exact_value}
pub use Rattle.bcs_decode_spec.proofs.Verdicts.{accepts_once_is, no_two_verdicts_are, reads_accepts, skips_accepts, skips_stops}
pub use Rattle.bcs_decode_spec.specs.Accepting.{Accepts, IsDecoded}
pub use Rattle.bcs_decode_spec.specs.Exact.{AreBytes}
pub use Rattle.bcs_decode_spec.specs.Reading.{read_value, skip_value, skipping, value_here}
pub use Rattle.bcs_decode_spec.specs.Stopping.{StopsAll}
pub use Rattle.bcs_decode_spec.specs.declared.decode_fault.DecodeFault.{DecodeFault}
pub use Rattle.bcs_decode_spec.specs.declared.decode_fault.DecodeFault.TheVariants.{OutOfMemory, Read, Stop}
pub use Rattle.bcs_decode_spec.specs.declared.reason.Reason.{Reason}
pub use Rattle.bcs_decode_spec.specs.declared.reason.Reason.TheVariants.{TrailingBytes}
pub use Rattle.bcs_encode_spec.specs.Encodes.{Encodes}
pub use Rattle.bcs_registry_model.specs.Container.{Entries}
pub use Rattle.bcs_registry_model.specs.Shape.{Shape}
pub use Rattle.bcs_registry_model.specs.View.{shape_of}
pub use Rattle.bcs_value_model.specs.Limits.{Bounds}
pub use Rattle.bcs_value_model.specs.Tree.{Tree}
pub use Rattle.bcs_value_model.specs.View.{tree_of}
pub use Rattle.bcs_value_model.specs.declared.value.Value.{Value}
pub use Rattle.bcs_decode.specs.Scanned.{ScansAll, ScansFrom}
pub use Rattle.bcs_decode.specs.Sliced.{DecodesSlice}
pub use Rattle.bcs_decode.specs.Whole.{DecodesAll, DecodesFrom, DecodesFront, FrontGone}
