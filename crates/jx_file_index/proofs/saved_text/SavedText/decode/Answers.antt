use Rattle.std.proofs.Common.{ℕ, Option, Some, refl, subst, sym, ◌∙◌}
use Rattle.std.proofs.lemmas.Result.{IfErr-weaker, IfOk-weaker, err_from_is_err_and}
use Rattle.jx_file_index.specs.Chunks.{IsCount}
use Rattle.jx_file_index.specs.declared.saved_text.SavedText.{SavedText}
use Rattle.jx_file_index.specs.SavedTexts.{SayNames, SaysSameToo}
use Rattle.jx_file_index.specs.declared.name_tables.NameTables.{NameTables}
use Rattle.jx_file_index.proofs.TextDecodings.{as_many_tables, front_is, kept_with, none_said, same_names}
use Rattle.jx_file_index.proofs.saved_text.SavedText.decode.Goals as goal

pub returns-in_err-index-clause-only : goal.returns-in_err-index-clause-only
returns-in_err-index-clause-only c =
    let p = err_from_is_err_and c.from_residual.result c.from_residual.ensures.1 in
    rw (p.1, p.2)
    (λ s savable is. c.in_err-index.ensures.only s.index savable.index (front_is c.args.bytes.now c.index_end-len.result s savable.index c.index_end-len.ensures.alone c.index_end-len.ensures.index is))

pub returns-then-len-bytes-clause-reads : goal.returns-then-len-bytes-clause-reads
returns-then-len-bytes-clause-reads c = λ s savable is. record {
  index = c.in_ok-index.ensures.reads s.index savable.index (front_is c.args.bytes.now c.index_end-len.result s savable.index c.index_end-len.ensures.alone c.index_end-len.ensures.index is);
  names = none_said c.args.bytes.now c.index_end-len.result s savable.index c.index_end-len.ensures.index c.if-len-bytes.true is;
}

pub returns-in_err-names-clause-only : goal.returns-in_err-names-clause-only
returns-in_err-names-clause-only c =
    let p = err_from_is_err_and c.from_residual-in_err-names.result c.from_residual-in_err-names.ensures.1 in
    rw (p.1, p.2)
    (λ s savable is.
    let bytes = c.args.bytes.now in
    let len = c.index_end-len.result in
    let index = c.in_ok-index.index in
    let same = c.in_ok-index.ensures.reads s.index savable.index (front_is bytes len s savable.index c.index_end-len.ensures.alone c.index_end-len.ensures.index is) in
    let k = kept_with bytes len s s.names refl savable.index savable.names c.index_end-len.ensures.alone c.index_end-len.ensures.index c.if-len-bytes.false is in
    let counted = subst (λ (n : ℕ). IsCount n index.size c.parts.result) c.bytes.ensures.value c.parts.ensures.counted in
    c.in_err-names.ensures.only s.index k.tables k.long k.has.fits (as_many_tables index s.index k.tables c.parts.result c.parts-count.result same k.has counted c.parts-count.ensures.counted) k.spelt)

pub returns-clause-reads : goal.returns-clause-reads
returns-clause-reads c =
    IfOk-weaker c.spelt_so.result _ _
    (λ r e s savable is.
    let bytes = c.args.bytes.now in
    let len = c.index_end-len.result in
    let index = c.in_ok-index.index in
    let same = c.in_ok-index.ensures.reads s.index savable.index (front_is bytes len s savable.index c.index_end-len.ensures.alone c.index_end-len.ensures.index is) in
    let k = kept_with bytes len s s.names refl savable.index savable.names c.index_end-len.ensures.alone c.index_end-len.ensures.index c.if-len-bytes.false is in
    let counted = subst (λ (n : ℕ). IsCount n index.size c.parts.result) c.bytes.ensures.value c.parts.ensures.counted in
    let say = c.in_ok-names.ensures.reads s.index k.tables k.long k.has.fits (as_many_tables index s.index k.tables c.parts.result c.parts-count.result same k.has counted c.parts-count.ensures.counted) k.spelt in
    subst (λ (x : SavedText). SaysSameToo x s) (sym e)
    (record { index = same; names = subst (λ (o : Option NameTables). SayNames (Some c.in_ok-names.names) o) (sym k.is) say }))
    c.spelt_so.ensures.same

pub returns-clause-only : goal.returns-clause-only
returns-clause-only c =
    IfErr-weaker c.spelt_so.result _ _
    (λ f only s savable is.
    let bytes = c.args.bytes.now in
    let len = c.index_end-len.result in
    let index = c.in_ok-index.index in
    let same = c.in_ok-index.ensures.reads s.index savable.index (front_is bytes len s savable.index c.index_end-len.ensures.alone c.index_end-len.ensures.index is) in
    let k = kept_with bytes len s s.names refl savable.index savable.names c.index_end-len.ensures.alone c.index_end-len.ensures.index c.if-len-bytes.false is in
    let counted = subst (λ (n : ℕ). IsCount n index.size c.parts.result) c.bytes.ensures.value c.parts.ensures.counted in
    let say = c.in_ok-names.ensures.reads s.index k.tables k.long k.has.fits (as_many_tables index s.index k.tables c.parts.result c.parts-count.result same k.has counted c.parts-count.ensures.counted) k.spelt in
    only (same_names index s.index c.in_ok-names.names k.tables same say ∙ sym k.spelt))
    c.spelt_so.ensures.only
