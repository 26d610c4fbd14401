use Rattle.std.proofs.Common.{◌≡◌, ◌<◌, ◌≤◌, ◌⊎◌, ℕ, true, false, inl, inr, ap, sym, ◌∙◌, arith}
use Rattle.std.proofs.lemmas.Bool.{cases_lt}
use Rattle.jx_lex.specs.inside.Bits.{bit}
use Rattle.jx_block.proofs.scalars.is_whole.Goals as goal

-- a place that is set is not one that is none
apart : (w k e : ℕ) → bit w k ≡ true → bit w e ≡ false → k ≤ e → k < e
apart w k e set none le = by_order (cases_lt k e)
  where
    by_order : (k < e) ⊎ (e ≤ k) → k < e
    by_order (inl lt) = lt
    by_order (inr ge) =
        let same : e ≡ k = omega arith in
        let clash : true ≡ false = sym set ∙ ap (bit w) (sym same) ∙ none in
        cc

pub is_scalar-requires : goal.is_scalar-requires
is_scalar-requires c =
    let end = c.run_end-end.ensures in
    let lt = apart c.args.scalars c.args.k c.run_end-end.result c.requires.begun (end.over c.if-end-ge64.false) end.low in
    (omega arith, omega arith)

pub returns : goal.returns
returns c h =
    let end = c.run_end-end.ensures in
    record {
      end = c.run_end-end.result;
      low = apart c.args.scalars c.args.k c.run_end-end.result c.requires.begun (end.over c.if-end-ge64.false) end.low;
      high = c.if-end-ge64.false;
      run = λ j low lt. end.run j c.if-end-ge64.false low lt;
      over = end.over c.if-end-ge64.false;
      stops = c.is_stop.ensures c.if-not-is_stop.false;
      is = c.is_scalar.ensures h;
    }
