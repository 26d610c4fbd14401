-- The inputs that the words of a command name.
use Rattle.std.specs.Prelude.{◌≡◌, ◌≢◌, ℕ, List, [], ◌∷◌, Bool, codes, map}
use Rattle.std.specs.Str.{bytes_eq}
use Rattle.jx_command.specs.declared.inputs.Input.{Input}
use Rattle.jx_command.specs.declared.inputs.Input.TheVariants.{Standard, File}
use Rattle.jx_command.specs.declared.inputs.Inputs.{Inputs}
use Rattle.jx_command.specs.declared.inputs.Inputs.TheVariants.{One, Several}

-- the word -, which stands for standard input
abbrev pub dash : List ℕ
dash = codes "-"

-- whether a word is that one
abbrev pub is_dash : List ℕ → Bool
is_dash word = bytes_eq word dash

-- standard input is named by the word - alone, and a file by its name
abbrev pub IsInputOf : List ℕ → Input → Type 0
IsInputOf word Standard = word ≡ dash
IsInputOf word (File name) = (word ≢ dash) × (name.now ≡ word)

-- one input, which is this
abbrev pub IsOne : (Input → Type 0) → Inputs → Type 0
IsOne P (One input) = P input
IsOne P (Several words) = ⊥

-- several inputs, by these words in this order
abbrev pub AreSeveral : List (List ℕ) → Inputs → Type 0
AreSeveral words (One input) = ⊥
AreSeveral words (Several named) = map (λ word. word.now) named.items ≡ words

-- the inputs that words name: standard input where there is none, the input that one word names, or all that they name
abbrev pub AreInputsOf : List (List ℕ) → Inputs → Type 0
AreInputsOf [] inputs = IsOne (λ input. input ≡ Standard) inputs
AreInputsOf (word ∷ []) inputs = IsOne (IsInputOf word) inputs
AreInputsOf (word ∷ next ∷ more) inputs = AreSeveral (word ∷ next ∷ more) inputs

-- the inputs where each has its name: one alone too, and standard input by the argument for it
abbrev pub AreNamedInputsOf : List (List ℕ) → Inputs → Type 0
AreNamedInputsOf [] inputs = AreSeveral (dash ∷ []) inputs
AreNamedInputsOf (word ∷ more) inputs = AreSeveral (word ∷ more) inputs
