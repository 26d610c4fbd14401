-- The forms in a value of the program.
use Rattle.std.specs.Prelude.{◌≡◌, ℕ, List, map, replicate, slice_index_or}
use Rattle.jx_reduce.specs.Form.{Form}
use Rattle.jx_reduce.specs.Marks.{of_nothing}
use Rattle.jx_reduce.specs.Reduced.{depth_of, form_in}
use Rattle.jx_reduce.specs.Reductions.{Forms}
use Rattle.jx_reduce.specs.declared.forms.entry.Entry.TheVariants.{Value as AnyValue}
use Rattle.jx_reduce.specs.declared.reducing.reductions.Reductions.TheInside.{Inside}

-- the form in this place
abbrev pub nth : List Form → ℕ → Form
nth fs i = slice_index_or fs i (of_nothing AnyValue)

-- the forms of the entries, in their order
abbrev pub in_order : ℕ → List Form → Forms
in_order d fs = record {
  depth = d;
  value = nth fs 0;
  array_first = nth fs 1;
  object_first = nth fs 2;
  name = nth fs 3;
  colon = nth fs 4;
  after = nth fs 5;
  value_or_name = nth fs 6;
  after_or_colon = nth fs 7;
}

abbrev pub forms_of : Inside → Forms
forms_of a = in_order a.depth (map form_in a.forms)

-- there are eight forms, and each knows the depth
abbrev pub AreOfDepth : Inside → Type 0
AreOfDepth a = map depth_of a.forms ≡ replicate 8 a.depth
