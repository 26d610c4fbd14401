-- What a look-up found is the kind and span of the node that the tokens lead to.
use Rattle.std.proofs.Common.{◌≡◌, ℕ, List, None, Result, Ok, Err, ap, subst}
use Rattle.jx_run.specs.Tree.{Tree}
use Rattle.jx_index.specs.declared.find_fault.FindFault.{FindFault}
use Rattle.jx_index.specs.declared.finder.Found as finder
use Rattle.jx_index.specs.Found.{found_of, value_of}
use Rattle.jx_index.specs.Leads.{Numbered, led}
use Rattle.jx_index.specs.declared.pointer.PointerFault.{PointerFault}
use Rattle.jx_index.specs.declared.pointer.PointerFault.TheVariants.{NoSlash, BadEscape}
use Rattle.jx_index.specs.PointerFaults.{IsFaultOf}
use Rattle.jx_index.specs.Pointers.{IsPointer, tokens}
use Rattle.jx_index.specs.Rows.{rows}
use Rattle.jx_index.specs.ByNames.{IsVerdictBy, RefusesName, a_text}
use Rattle.jx_run.specs.declared.texts.settings.Settings.{Settings}
use Rattle.jx_run.specs.declared.texts.verdict.Verdict.TheVariants.{Accepted}
use Rattle.jx_run.specs.Settings.{IsDocumentBy}
use Rattle.jx_c.specs.LookUps.{IsFoundIn, IsLed, IsLookUp, IsSpelt}
use Rattle.jx_c.specs.declared.texts.look_up.LookUp.{LookUp}
use Rattle.jx_c.specs.declared.texts.look_up.LookUp.TheVariants.{Found, Lost, BadPointer, NotUtf8, NoText}

-- in the tree of a text that is accepted by settings no name is refused
pub none_refused : ((settings : Settings) (at : ℕ) (bytes : List ℕ) (x y : Tree) → IsDocumentBy settings at bytes x → IsDocumentBy settings at bytes y → x ≡ y)
    → (settings : Settings) (text : List ℕ) (tree : Tree) → IsDocumentBy settings 0 text tree → IsVerdictBy settings text Accepted → RefusesName settings.names text (rows tree) None
none_refused one_tree settings text tree d (a_text {tree = other} e h) =
    subst (λ (t : Tree). RefusesName settings.names text (rows t) None) (one_tree settings 0 text other tree e d) h

module _ (text : List ℕ) (tree : Tree) (pointer : List ℕ) where
  pub value_at : (value : finder.Found) (r : Result Numbered FindFault) → led text tree (tokens pointer) ≡ r → Ok value ≡ found_of r → IsFoundIn text tree pointer value.kind value.span
  value_at value (Ok c) is e =
      let same : value ≡ value_of c.tree = cc in
      record { node = c; leads = is; kind_is = ap (λ (v : finder.Found). v.kind) same; span_is = ap (λ (v : finder.Found). v.span) same }
  value_at value (Err fault) is e = absurd (cc)

  pub lost_at : (fault : FindFault) (r : Result Numbered FindFault) → Err fault ≡ found_of r → r ≡ Err fault
  lost_at fault (Ok c) e = absurd (cc)
  lost_at fault (Err other) e = let same : other ≡ fault = cc in cc

  pub in_bytes : (settings : Settings) → IsDocumentBy settings 0 text tree → RefusesName settings.names text (rows tree) None → IsSpelt pointer → (l : LookUp) → IsLed text tree pointer l → IsLookUp settings text pointer l
  in_bytes settings d n s (Found kind place) h = (s, (tree, d, n, h))
  in_bytes settings d n s (Lost fault) h = (s, (tree, d, n, h))
  in_bytes settings d n s (BadPointer fault) h = absurd h
  in_bytes settings d n s NotUtf8 h = absurd h
  in_bytes settings d n s (NoText refused) h = absurd h

-- what is refused as a pointer is none
pub no_pointer : (text : List ℕ) (fault : PointerFault) → IsFaultOf text fault → IsPointer text → ⊥
no_pointer text NoSlash lost pointer = lost pointer.slash
no_pointer text (BadEscape at) bad pointer = pointer.escapes at bad.here
