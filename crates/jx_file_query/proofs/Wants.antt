-- By the table of a chunk's block no member of it is wanted.
use Rattle.std.proofs.Common.{◌≡◌, ℕ, ◌/◌, List, refl, sym, ap, subst, ◌∙◌, Bool, true, false, None, Some}
use Rattle.std.specs.Prelude.{◌==◌, All, Contains, map, option_map, slice_get, slice_index_or}
use Rattle.std.proofs.lemmas.Option.{slice_get-map}
use Rattle.std.specs.Ordering.{nat_cmp, is_eq}
use Rattle.std.specs.Cmp.Lexicographic.{slice_cmp}
use Rattle.std.proofs.lemmas.Bool.{eqb-true, and_parts}
use Rattle.jx_run.specs.declared.texts.settings.Settings.{Settings}
use Rattle.jx_index.specs.declared.trie.Edge.{Edge}
use Rattle.jx_index.specs.inside.Trie.{child_at, edge_units, leads_to_units}
use Rattle.jx_index.proofs.NameKeys.{same_units}
use Rattle.jx_index.proofs.Ways.{first_none}
use Rattle.jx_file_index.specs.NameHash.{name_hash}
use Rattle.jx_file_index.specs.NameTables.{AreTablesOf, key_of}
use Rattle.jx_file_query.specs.declared.members.TextNames.{TextNames}
use Rattle.jx_file_query.specs.Hashes.{HaveHashes}
use Rattle.jx_file_query.specs.inside.Members.{NoneWants}

module _ (settings : Settings) (size : ℕ) (text : List ℕ) (edges : List Edge) (names : TextNames) (t : AreTablesOf settings size text names.tables.now) (hashes : HaveHashes edges names.hashes.items) where
  pub none_wanted : (node n : ℕ) → NoneWants names edges node n → (own : List (List ℕ)) → slice_get t.names n ≡ Some own → All (λ (units : List ℕ). child_at edges node units ≡ None) own
  none_wanted node n wants own is k d low = first_none (leads_to_units node units) edges 1 (λ i e got. other i e got (leads_to_units node units e) refl)
    where
      units : List ℕ
      units = slice_index_or own k d

      other : (i : ℕ) (e : Edge) → slice_get edges i ≡ Some e → (b : Bool) → leads_to_units node units e ≡ b → leads_to_units node units e ≡ false
      other i e got false h = h
      other i e got true h =
          let p = and_parts (e.parent == node) (is_eq (slice_cmp nat_cmp units (edge_units e))) h in
          let parent : e.parent ≡ node = eqb-true e.parent node p.0 in
          let same : units ≡ edge_units e = same_units units (edge_units e) p.1 in
          let w = wants i e got parent in
          let table = w.none.table in
          let of = t.each (n / 64) table w.none.is w.none.kept in
          let hash : name_hash units ≡ w.hash = ap name_hash same ∙ sym (hashes i e w.hash got w.is) in
          absurd (w.none.without of.rising (subst (λ (x : ℕ). Contains table.keys.items (key_of x n)) hash (of.has n own refl is k d low)))

-- the hashes of all edges, in order
pub have_hashes : (edges : List Edge) (hashes : List ℕ) → hashes ≡ map (λ (e : Edge). name_hash (edge_units e)) edges → HaveHashes edges hashes
have_hashes edges hashes are i e hash is got =
    let both : Some (name_hash (edge_units e)) ≡ Some hash =
    ap (option_map (λ (x : Edge). name_hash (edge_units x))) (sym is)
    ∙ sym (slice_get-map (λ (x : Edge). name_hash (edge_units x)) edges i)
    ∙ ap (λ (xs : List ℕ). slice_get xs i) (sym are) ∙ got in
    cc
