-- The words that the lines of the output are made of.
use Rattle.std.specs.Prelude.{ℕ, List, [], ◌∷◌, ◌++◌, codes, decimal}
use Rattle.jx_lex.specs.declared.kind.Kind.{Kind}
use Rattle.jx_lex.specs.declared.kind.Kind.TheVariants.{Object, Array, String, Number, True, False, Null}
use Rattle.jx_summary.specs.declared.span.Span.{Span}
use Rattle.jx_run.specs.declared.texts.verdict.Refusal.{Refusal}
use Rattle.jx_run.specs.declared.texts.verdict.Refusal.TheVariants.{Stopped, Truncated, TooDeep, RepeatedName}

-- words, then LF
abbrev pub line : List ℕ → List ℕ
line words = words ++ 10 ∷ []

-- the words for a refusal, with its offset in plain decimal
abbrev pub refusal_words : Refusal → List ℕ
refusal_words (Stopped at) = codes "stopped at " ++ decimal at
refusal_words Truncated = codes "truncated"
refusal_words (TooDeep at) = codes "too deep at " ++ decimal at
refusal_words (RepeatedName at) = codes "repeated name at " ++ decimal at

abbrev pub kind_words : Kind → List ℕ
kind_words Object = codes "object"
kind_words Array = codes "array"
kind_words String = codes "string"
kind_words Number = codes "number"
kind_words True = codes "true"
kind_words False = codes "false"
kind_words Null = codes "null"

-- S..E
abbrev pub span_words : Span → List ℕ
span_words span = decimal span.start ++ codes ".." ++ decimal span.end
