-- One pointer's line more, and what is told of it.
use Rattle.std.specs.Prelude.{Option, flat_map, slice_range, unwrap_or}
use Rattle.std.proofs.Common.{◌≡◌, ℕ, ◌+◌, ◌-◌, ◌<◌, List, [], ◌∷◌, ◌++◌, length, take, get_or, refl, sym, ap, ◌∙◌, arith, append_assoc, append-nil}
use Rattle.std.proofs.lemmas.List.{length-take, take_all}
use Rattle.std.specs.Io.KnownBytes.{Appends}
use Rattle.std.proofs.KnownBytes.{Appends-nil, Appends-trans}
use Rattle.jx_summary.specs.declared.span.Span.{Span}
use Rattle.jx_file_index.specs.declared.index.Index.{Index}
use Rattle.jx_words.specs.declared.pointer_answer.PointerAnswer.{PointerAnswer}
use Rattle.jx_words.specs.declared.pointer_answer.PointerAnswer.TheVariants.{Found, Lost, Unread}
use Rattle.jx_ends.specs.Ends.{AppendsBeginning}
use Rattle.jx_words.specs.Words.{line}
use Rattle.jx_words.proofs.PutSteps.{put_in_part}
use Rattle.jx_values.specs.declared.form.Form.{Form}
use Rattle.jx_values.specs.Values.{told_line, told_lines, told_of_value, value_line, value_written}
use Rattle.jx_cmd_index.specs.inside.Alone.{alone, span_of}
use Rattle.jx_cmd_index.specs.inside.ValueLines.{AddsTold, AreLinesOf, BeganLine, BeganSome, WroteLine, WroteLinesOf, WroteSome}
use Rattle.jx_cmd_index.specs.inside.Texts.{AreBytesIn, OfEachText}
use Rattle.jx_cmd_index.proofs.PlaceLineSteps.{longer}

-- ---- of one value

whole : (bytes : List ℕ) → slice_range bytes 0 (length bytes) ≡ bytes
whole bytes = take_all (length bytes - 0) bytes (omega arith)

module _ (known : Option (List ℕ)) (index : Index) (form : Form) (value : List ℕ) (n : ℕ) (long : n ≡ length value) where
  same_bytes : (s : Span) → AreBytesIn known index s.start s.end value → OfEachText known index (λ text file. slice_range value 0 n ≡ slice_range text s.start s.end)
  same_bytes s is_value = λ settings chunk text file is_index is tells. ap (λ (k : ℕ). slice_range value 0 k) long ∙ whole value ∙ is_value settings chunk text file is_index is tells

  pub line_is : (answer : PointerAnswer) → AreBytesIn known index (span_of answer).start (span_of answer).end value → OfEachText known index (λ text file. value_line form value (alone answer n) ≡ value_line form text answer)
  line_is (Found kind s) is_value = λ settings chunk text file is_index is tells.
      ap (λ (bytes : List ℕ). line (unwrap_or (value_written form kind bytes) [])) (same_bytes s is_value settings chunk text file is_index is tells)
  line_is (Unread fault) is_value = λ settings chunk text file is_index is tells. refl
  line_is (Lost fault) is_value = λ settings chunk text file is_index is tells. refl

  pub told_is : (pointer : List ℕ) (answer : PointerAnswer) → AreBytesIn known index (span_of answer).start (span_of answer).end value
      → OfEachText known index (λ text file. told_line form value pointer (alone answer n) ≡ told_line form text pointer answer)
  told_is pointer (Found kind s) is_value = λ settings chunk text file is_index is tells.
      ap (λ (bytes : List ℕ). told_of_value pointer (value_written form kind bytes)) (same_bytes s is_value settings chunk text file is_index is tells)
  told_is pointer (Unread fault) is_value = λ settings chunk text file is_index is tells. refl
  told_is pointer (Lost fault) is_value = λ settings chunk text file is_index is tells. refl

-- a beginning of bytes behind others
begun_behind : (a b c : Option (List ℕ)) (front bytes : List ℕ) → Appends a b front → AppendsBeginning b c bytes → AppendsBeginning a c (front ++ bytes)
begun_behind a b c front bytes first second = put_in_part a b bytes (front ++ bytes) (record { front = front; wrote = first; whole = refl }) c second

-- ---- what is written of one answer

module _ (known : Option (List ℕ)) (index : Index) (form : Form) (answer : PointerAnswer) (out : List ℕ) (is : OfEachText known index (λ text file. out ≡ value_line form text answer)) (old new : Option (List ℕ)) where
  pub wrote : Appends old new out → WroteLine known index form answer old new
  wrote w = record { line = out; is = is; wrote = w }

  pub began : (pointer words : List ℕ) → OfEachText known index (λ text file. words ≡ told_line form text pointer answer) → AppendsBeginning old new out → BeganLine known index form pointer answer old new
  began pointer words words_are w = record { line = out; words = words; is = is; words_are = words_are; wrote = w }

pub adds : (known : Option (List ℕ)) (index : Index) (form : Form) (pointer : List ℕ) (answer : PointerAnswer) (words old new : List ℕ) → OfEachText known index (λ text file. words ≡ told_line form text pointer answer)
    → new ≡ old ++ words → AddsTold known index form pointer answer old new
adds known index form pointer answer words old new is e = λ settings chunk text file is_index known_is tells. e ∙ ap (λ (l : List ℕ). old ++ l) (is settings chunk text file is_index known_is tells)

-- ---- lists

lines_and_one : (form : Form) (text : List ℕ) (answers : List PointerAnswer) (one : PointerAnswer)
    → flat_map (value_line form text) (answers ++ one ∷ []) ≡ flat_map (value_line form text) answers ++ value_line form text one
lines_and_one form text [] one = append-nil (value_line form text one)
lines_and_one form text (a ∷ answers) one =
    ap (λ (l : List ℕ). value_line form text a ++ l) (lines_and_one form text answers one)
    ∙ sym (append_assoc (value_line form text a) (flat_map (value_line form text) answers) (value_line form text one))

told_and_one : (form : Form) (text : List ℕ) (pointers : List (List ℕ)) (answers : List PointerAnswer) (pointer : List ℕ) (one : PointerAnswer) → length pointers ≡ length answers
    → told_lines form text (pointers ++ pointer ∷ []) (answers ++ one ∷ []) ≡ told_lines form text pointers answers ++ told_line form text pointer one
told_and_one form text [] [] pointer one e = append-nil (told_line form text pointer one)
told_and_one form text [] (a ∷ answers) pointer one e = absurd (omega (arith, e))
told_and_one form text (p ∷ pointers) [] pointer one e = absurd (omega (arith, e))
told_and_one form text (p ∷ pointers) (a ∷ answers) pointer one e =
    ap (λ (l : List ℕ). told_line form text p a ++ l) (told_and_one form text pointers answers pointer one (omega (arith, e)))
    ∙ sym (append_assoc (told_line form text p a) (told_lines form text pointers answers) (told_line form text pointer one))

taken_long : {A : Type 0} (i : ℕ) (xs : List A) → i < length xs → length (take i xs) ≡ i
taken_long i xs low = grind (arith, length-take i xs, low)

-- ---- of the first answers, so many

module _ (known : Option (List ℕ)) (index : Index) (form : Form) (pointers : List (List ℕ)) (answers : List PointerAnswer) where
  pub none_yet : (told : List ℕ) (old : Option (List ℕ)) → told ≡ [] → WroteLinesOf known index form pointers answers 0 told old old
  none_yet told old e = record {
    lines = [];
    are = record { lines_are = λ settings chunk text file is_index is tells. refl; told_is = λ settings chunk text file is_index is tells. e };
    wrote = Appends-nil old;
  }

  module _ (i : ℕ) (pointer : List ℕ) (answer : PointerAnswer) (some_pointer : List ℕ) (some : PointerAnswer) (low : i < length pointers) (short : i < length answers) (is_pointer : pointer ≡ get_or pointers i some_pointer)
      (is_answer : answer ≡ get_or answers i some) (lines more told next : List ℕ) (so_far : AreLinesOf known index form pointers answers i lines told)
      (one : OfEachText known index (λ text file. more ≡ value_line form text answer)) where
    lines_step : OfEachText known index (λ text file. lines ++ more ≡ flat_map (value_line form text) (take (i + 1) answers))
    lines_step = λ settings chunk text file is_index is tells.
        ap (λ (l : List ℕ). l ++ more) (so_far.lines_are settings chunk text file is_index is tells)
        ∙ ap (λ (l : List ℕ). flat_map (value_line form text) (take i answers) ++ l) (one settings chunk text file is_index is tells)
        ∙ sym (lines_and_one form text (take i answers) answer)
        ∙ sym (ap (λ (x : List PointerAnswer). flat_map (value_line form text) x) (longer i answers answer some short is_answer))

    told_step : AddsTold known index form pointer answer told next → OfEachText known index (λ text file. next ≡ told_lines form text (take (i + 1) pointers) (take (i + 1) answers))
    told_step adds = λ settings chunk text file is_index is tells.
        adds settings chunk text file is_index is tells
        ∙ ap (λ (l : List ℕ). l ++ told_line form text pointer answer) (so_far.told_is settings chunk text file is_index is tells)
        ∙ sym (told_and_one form text (take i pointers) (take i answers) pointer answer (taken_long i pointers low ∙ sym (taken_long i answers short)))
        ∙ sym (ap (λ (x : List (List ℕ)). told_lines form text x (take i answers ++ answer ∷ [])) (longer i pointers pointer some_pointer low is_pointer))
        ∙ sym (ap (λ (x : List PointerAnswer). told_lines form text (take (i + 1) pointers) x) (longer i answers answer some short is_answer))

    pub one_more : AddsTold known index form pointer answer told next → AreLinesOf known index form pointers answers (i + 1) (lines ++ more) next
    one_more adds = record { lines_are = lines_step; told_is = told_step adds }

  module _ (i : ℕ) (pointer : List ℕ) (answer : PointerAnswer) (some_pointer : List ℕ) (some : PointerAnswer) (low : i < length pointers) (short : i < length answers) (is_pointer : pointer ≡ get_or pointers i some_pointer)
      (is_answer : answer ≡ get_or answers i some) (told : List ℕ) (a b c : Option (List ℕ)) (so_far : WroteLinesOf known index form pointers answers i told a b) where
    pub wrote_more : (next : List ℕ) → WroteLine known index form answer b c → AddsTold known index form pointer answer told next → WroteLinesOf known index form pointers answers (i + 1) next a c
    wrote_more next one adds = record {
      lines = so_far.lines ++ one.line;
      are = one_more i pointer answer some_pointer some low short is_pointer is_answer so_far.lines one.line told next so_far.are one.is adds;
      wrote = Appends-trans a b c so_far.lines one.line so_far.wrote one.wrote;
    }

    pub began_more : BeganLine known index form pointer answer b c → BeganSome known index form pointers answers a c
    began_more one = record {
      count = i + 1;
      lines = so_far.lines ++ one.line;
      told = told ++ one.words;
      are = one_more i pointer answer some_pointer some low short is_pointer is_answer so_far.lines one.line told (told ++ one.words) so_far.are one.is
          (λ settings chunk text file is_index is tells. ap (λ (l : List ℕ). told ++ l) (one.words_are settings chunk text file is_index is tells));
      wrote = begun_behind a b c so_far.lines one.line so_far.wrote one.wrote;
    }

  pub some_lines : (i : ℕ) (told : List ℕ) (a b : Option (List ℕ)) → WroteLinesOf known index form pointers answers i told a b → WroteSome known index form pointers answers a b
  some_lines i told a b h = record { count = i; told = told; wrote = h }
