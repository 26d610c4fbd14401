-- The value that a look-up gives.
use Rattle.std.specs.Prelude.{◌≡◌, ℕ, List, Result, Ok, Err}
use Rattle.std.specs.List.{AllZip}
use Rattle.jx_run.specs.declared.texts.settings.Settings.{Settings}
use Rattle.jx_run.specs.declared.texts.verdict.Refusal.{Refusal}
use Rattle.jx_run.specs.declared.texts.verdict.Verdict.TheVariants.{Accepted, Refused}
use Rattle.jx_run.specs.Laws.{span_of}
use Rattle.jx_run.specs.Settings.{IsDocumentBy}
use Rattle.jx_run.specs.Tree.{Tree}
use Rattle.jx_index.specs.ByNames.{IsVerdictBy}
use Rattle.jx_index.specs.declared.find_fault.FindFault.{FindFault}
use Rattle.jx_index.specs.declared.finder.Found.{Found}
use Rattle.jx_index.specs.Leads.{Numbered, kind_of, led}
use Rattle.jx_index.specs.Pointers.{tokens}

-- the kind and the span of a tree's root
abbrev pub value_of : Tree → Found
value_of tree = record { kind = kind_of tree; span = span_of tree }

abbrev pub found_of : Result Numbered FindFault → Result Found FindFault
found_of (Ok c) = Ok (value_of c.tree)
found_of (Err fault) = Err fault

-- ---- by the verdict

-- a text by settings, and what the pointer leads to in its tree
pub record IsFoundIn (settings : Settings) (bytes pointer : List ℕ) (found : Result Found FindFault) : Type 0 where
  pub tree : Tree
  pub is_text : IsDocumentBy settings 0 bytes tree
  pub found_is : found ≡ found_of (led bytes tree (tokens pointer))

abbrev pub IsFoundBy : Settings → List ℕ → List ℕ → Result (Result Found FindFault) Refusal → Type 0
IsFoundBy settings bytes pointer (Ok found) = IsVerdictBy settings bytes Accepted × IsFoundIn settings bytes pointer found
IsFoundBy settings bytes pointer (Err refusal) = IsVerdictBy settings bytes (Refused refusal)

-- a text by settings, and what each pointer, in order, leads to in its tree
pub record AreFoundIn (settings : Settings) (bytes : List ℕ) (pointers : List (List ℕ)) (found : List (Result Found FindFault)) : Type 0 where
  pub tree : Tree
  pub is_text : IsDocumentBy settings 0 bytes tree
  pub found_are : AllZip (λ (pointer : List ℕ) (one : Result Found FindFault). one ≡ found_of (led bytes tree (tokens pointer))) pointers found
