use Rattle.bcs_value.proofs.Prelude.{sym, arith, each_fits-unlike, fields_fit-unlike, fits-found, fits-missing, fits-map, fits-text, fits-bytes, tree_of_signed, tree_of_unsigned}
use Rattle.bcs_value.proofs.fitting.+fits.Goals as goal

pub each_fits-returns-then-items-formats : goal.each_fits-returns-then-items-formats
each_fits-returns-then-items-formats t c =
    sym (each_fits-unlike c.args.loose c.args.registry.now c.args.items.now c.args.formats.now c.if-items-formats.true)

pub fields_fit-returns-then-items-fields : goal.fields_fit-returns-then-items-fields
fields_fit-returns-then-items-fields t c =
    sym (fields_fit-unlike c.args.loose c.args.registry.now c.args.items.now c.args.fields.now c.if-items-fields.true)

pub fills-returns-in-Some : goal.fills-returns-in-Some
fills-returns-in-Some t c =
    let m = c.in-Enum-Variant in
    fits-found _ _ _ _ _ m.variants m.number m.inner c.in-Some.variant c.get.result _ (omega arith) m.is-0 m.is-1 c.deref-in-Some.ensures c.get.ensures.value c.in-Some.is c.pays.ensures

pub fills-returns-in-None : goal.fills-returns-in-None
fills-returns-in-None t c =
    let m = c.in-Enum-Variant in
    fits-missing _ _ _ _ m.variants m.number m.inner c.get.result m.is-0 m.is-1 c.get.ensures.value c.in-None.is

pub fits-returns-in-Pairs-Map : goal.fits-returns-in-Pairs-Map
fits-returns-in-Pairs-Map t c =
    let m = c.in-Pairs-Map in
    fits-map _ _ _ _ m.pairs m.key m.value _ _ _ _ m.is-0 m.is-1 c.deref-in-Pairs-Map.ensures.value c.deref-in-Pairs-Map-2.ensures c.deref-in-Pairs-Map-3.ensures c.pairs_fit.ensures

pub fits-returns-in-Text-Str : goal.fits-returns-in-Text-Str
fits-returns-in-Text-Str t c =
    fits-text _ _ _ _ _ c.in-Text-Str.is-0 c.in-Text-Str.is-1

pub fits-returns-in-Bytes-Bytes : goal.fits-returns-in-Bytes-Bytes
fits-returns-in-Bytes-Bytes t c =
    let m = c.in-Bytes-Bytes in
    fits-bytes _ _ _ _ m.bytes _ _ m.is-0 m.is-1 c.deref.ensures.value c.are_bytes.ensures

pub fits-returns-in-Unsigned-default : goal.fits-returns-in-Unsigned-default
fits-returns-in-Unsigned-default t c =
    rw (c.in-Unsigned-default.is-0, tree_of_unsigned c.in-Unsigned-default.number) (c.unsigned_fits.ensures c.args.registry.now)

pub fits-returns-in-Signed-default : goal.fits-returns-in-Signed-default
fits-returns-in-Signed-default t c =
    rw (c.in-Signed-default.is-0, tree_of_signed c.in-Signed-default.number) (c.signed_fits.ensures c.args.registry.now)
