use Rattle.bcs_decode_source.proofs.Prelude.{◌≡◌, ◌∙◌, ◌+◌, subst, ap, sym, Ok, Err, arith, utf8_valid_len_le, utf8_valid_len, BadUtf8, rest_of}
use Rattle.std.specs.Str.{IsUtf8}
use Rattle.bcs_decode_source.proofs.Chains.{text_right, text_wrong}
use Rattle.bcs_decode_source.proofs.Readers.{Onward-none, Onward-then, Onward-done, Onward-stops}
use Rattle.bcs_decode_source.proofs.strings.text.Goals as goal

pub overflow_add-result : goal.overflow_add-result
overflow_add-result g c =
    let found = c.in_ok-found.found.items in
    let valid : c.valid_up_to.result ≡ utf8_valid_len found = c.valid_up_to.ensures ∙ c.in-Err.ensures.valid_len ∙ ap utf8_valid_len c.as_slice.ensures.value in
    omega (arith, valid, utf8_valid_len_le found, c.in_ok-found.ensures.far, c.in_ok-found.ensures.reads.room)

pub returns-in-Err : goal.returns-in-Err
returns-in-Err g c =
    let found = c.in_ok-found.found.items in
    let valid : c.valid_up_to.result ≡ utf8_valid_len found = c.valid_up_to.ensures ∙ c.in-Err.ensures.valid_len ∙ ap utf8_valid_len c.as_slice.ensures.value in
    record {
      reads = Onward-stops (Onward-then (Onward-none c.requires.ready) c.in_ok-found.ensures.reads) (omega (arith, valid, utf8_valid_len_le found, c.in_ok-found.ensures.far))
          (λ told. text_wrong c.args.count _ _ _ found _ _ _ (c.in_ok-found.ensures.reads.sees told).0 (λ good. c.in-Err.ensures.cases.0 (subst IsUtf8 (sym c.as_slice.ensures.value) good))
          ∙ ap (λ n. Err (BadUtf8, c.args.reader.now.at.now.place + n)) (sym valid));
    }

pub returns-in-Ok : goal.returns-in-Ok
returns-in-Ok g c =
    record {
      reads = Onward-done (Onward-then (Onward-none c.requires.ready) c.in_ok-found.ensures.reads)
          (λ told.
          (let read = c.in_ok-found.ensures.reads.sees told in
          let good = subst IsUtf8 c.as_slice.ensures.value c.in-Ok.ensures.cases.1 in (
            text_right c.args.count _ _ _ c.in_ok-found.found.items _ _ _ read.0 good
                ∙ ap (λ v. Ok (v.items, c.bytes.new.reader.at.now.place, c.bytes.new.reader.at.now.nodes, rest_of (g.S.ByteSource.content c.bytes.new.reader.source.now))) (sym c.from_utf8_unchecked.ensures.value),
            read.1,
          )));
    }
