-- What a writer got and what waits, step by step.
use Rattle.std.proofs.Common.{◌≡◌, ℕ, ◌+◌, ◌≤◌, List, ◌++◌, length, take, refl, sym, ap, subst, ◌∙◌, arith, append_assoc, length-append}
use Rattle.std.specs.Prelude.{Option}
use Rattle.std.specs.Io.KnownBytes.{Appends}
use Rattle.std.proofs.KnownBytes.{Appends-trans}
use Rattle.std.proofs.Math.Seq.{take-append-add}
use Rattle.std.proofs.lemmas.List.{take-append-le}
use Rattle.jx_ends.specs.Ends.{AppendsBeginning}
use Rattle.jx_words.specs.inside.Room.{IsPut}

module _ (a b : Option (List ℕ)) (waiting bytes : List ℕ) (p : IsPut a b waiting bytes) where
  -- more bytes wait
  pub put_more : (next more : List ℕ) → next ≡ waiting ++ more → IsPut a b next (bytes ++ more)
  put_more next more e = record {
    front = p.front;
    wrote = p.wrote;
    whole = ap (λ x. x ++ more) p.whole ∙ append_assoc p.front waiting more ∙ ap (λ x. p.front ++ x) (sym e);
  }

  -- some of what waited was written
  pub put_on : (c : Option (List ℕ)) (next : List ℕ) → IsPut b c next waiting → IsPut a c next bytes
  put_on c next q = record {
    front = p.front ++ q.front;
    wrote = Appends-trans a b c p.front q.front p.wrote q.wrote;
    whole = p.whole ∙ ap (λ x. p.front ++ x) q.whole ∙ sym (append_assoc p.front q.front next);
  }

  -- a beginning of what waited was written
  pub put_in_part : (c : Option (List ℕ)) → AppendsBeginning b c waiting → AppendsBeginning a c bytes
  put_in_part c (n, low, wrote) = (
    length p.front + n,
    (let long : length bytes ≡ length p.front + length waiting = ap (λ (x : List ℕ). length x) p.whole ∙ length-append p.front waiting in omega arith),
    subst (Appends a c) (sym (ap (take (length p.front + n)) p.whole ∙ take-append-add p.front waiting n)) (Appends-trans a b c p.front (take n waiting) p.wrote wrote),
  )

-- a beginning of the bytes is one of those and more
pub beginning_of_more : (a c : Option (List ℕ)) (bytes more : List ℕ) → AppendsBeginning a c bytes → AppendsBeginning a c (bytes ++ more)
beginning_of_more a c bytes more (n, low, wrote) = (
  n,
  (let long : length (bytes ++ more) ≡ length bytes + length more = length-append bytes more in omega arith),
  (let short : n ≤ length bytes = omega arith in subst (Appends a c) (sym (take-append-le n bytes more short)) wrote),
)

-- ---- lines in turn

-- so much is put, and this is to come
pub record IsPutUpTo (written grown : Option (List ℕ)) (waiting rest whole : List ℕ) : Type 0 where
  pub so_far : List ℕ
  pub put : IsPut written grown waiting so_far
  pub to_come : so_far ++ rest ≡ whole

module _ (a b : Option (List ℕ)) (waiting rest whole : List ℕ) (p : IsPutUpTo a b waiting rest whole) where
  -- what waited made room for one line more
  pub one_line_more : (c : Option (List ℕ)) (mid next more later : List ℕ) → IsPut b c mid waiting → next ≡ mid ++ more
      → ((out longer : List ℕ) → longer ≡ out ++ more → longer ++ later ≡ out ++ rest) → IsPutUpTo a c next later whole
  one_line_more c mid next more later q e step = record {
    so_far = p.so_far ++ more;
    put = put_more a c mid p.so_far (put_on a b waiting p.so_far p.put c mid q) next more e;
    to_come = step p.so_far (p.so_far ++ more) refl ∙ p.to_come;
  }

  pub fails_between_lines : (c : Option (List ℕ)) → AppendsBeginning b c waiting → AppendsBeginning a c whole
  fails_between_lines c q =
      subst (AppendsBeginning a c) p.to_come (beginning_of_more a c p.so_far rest (put_in_part a b waiting p.so_far p.put c q))

  pub after_lines : p.so_far ++ rest ≡ p.so_far → IsPut a b waiting whole
  after_lines done = subst (IsPut a b waiting) (sym done ∙ p.to_come) p.put
