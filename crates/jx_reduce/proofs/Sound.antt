-- Joins of the forms from each entry.
use Rattle.std.proofs.Common.{◌≡◌, ℕ, ◌<◌, ◌≤◌, List, length, refl, sym, ◌∙◌, ap, subst, Option, Some, None}
use Rattle.jx_reduce.specs.Entries.{expect_at}
use Rattle.jx_reduce.specs.Read.{went, top, then_by, read}
use Rattle.jx_reduce.specs.Form.{Form, acts}
use Rattle.jx_reduce.specs.Marks.{of_nothing, of_marks}
use Rattle.jx_reduce.specs.Fits.{Fits}
use Rattle.jx_reduce.specs.Offsets.{OffsetsIn, RisingFrom}
use Rattle.jx_reduce.specs.Reductions.{Forms, form_at, entry_of, answer, IsSound, IsBefore, IsJoin, IsOf}
use Rattle.jx_reduce.specs.inside.Follow.{followed_by, followed}
use Rattle.jx_reduce.proofs.Joined.{acts-joined, acts_over}
use Rattle.jx_reduce.proofs.Bounds.{Fits-joined, OffsetsIn-joined, apart}
use Rattle.jx_reduce.proofs.Readings.{then_by_same, acts-of_marks, acts-of_nothing, Fits-of_marks, Fits-of_nothing, OffsetsIn-of_nothing}
use Rattle.jx_reduce.specs.declared.table.holder.Holder.{Holder}
use Rattle.jx_lex.specs.declared.alphabet.mark.Mark.{Mark}
use Rattle.jx_reduce.specs.declared.table.expect.Expect.{Expect}
use Rattle.jx_reduce.specs.declared.table.expect.Expect.TheVariants.{Value, ArrayFirst, ObjectFirst, Name, Colon, After}
use Rattle.jx_reduce.specs.declared.forms.entry.Entry.{Entry}

acts_by : (l : Form) (r : Forms) (mid : ℕ) (s : List Holder) (x : Option Entry) → l.exit ≡ x → Fits r.depth l → IsSound r
    → OffsetsIn (λ p. p < mid) l → ((x : Entry) → OffsetsIn (λ p. mid ≤ p) (form_at r x)) → length s ≤ r.depth
    → acts r.depth (followed_by r.depth l r x) s ≡ then_by (answer r) (acts r.depth l s)
acts_by l r mid s None e fits sound below above short = sym (acts_over r.depth l s (answer r) e)
acts_by l r mid s (Some x) e fits sound below above short =
    let f : Fits r.depth (form_at r x) = sound.fits x in
    acts-joined r.depth l (form_at r x) x mid s e (apart l (form_at r x) mid below (above x)) fits.levels fits.risen f.risen short
    ∙ then_by_same r.depth l x s (λ _ u. acts r.depth (form_at r x) u) (answer r) e fits.risen short (λ t h. sound.agree x t h)

fits_by : (d : ℕ) (l : Form) (r : Forms) (x : Option Entry) → Fits d l → ((x : Entry) → Fits d (form_at r x)) → Fits d (followed_by d l r x)
fits_by d l r None f g = f
fits_by d l r (Some x) f g = let h : Fits d (form_at r x) = g x in Fits-joined d l (form_at r x) f h.risen h.decided

in_by : (Q : ℕ → Type 0) (d : ℕ) (l : Form) (r : Forms) (x : Option Entry) → OffsetsIn Q l → ((x : Entry) → OffsetsIn Q (form_at r x)) → OffsetsIn Q (followed_by d l r x)
in_by Q d l r None a b = a
in_by Q d l r (Some x) a b = OffsetsIn-joined Q d l (form_at r x) a (b x)

-- a join, entry by entry
pub record Follows (l r j : Forms) : Type 0 where
  pub depths : l.depth ≡ r.depth
  pub depth : j.depth ≡ r.depth
  pub each : (x : Entry) → form_at j x ≡ followed r.depth (form_at l x) r

acts_each : (l r j : Forms) → Follows l r j → IsBefore l r → IsSound l → IsSound r → (x : Entry) (s : List Holder) → length s ≤ r.depth
    → acts j.depth (form_at j x) s ≡ then_by (answer r) (acts l.depth (form_at l x) s)
acts_each l r j f b left right x s short =
    rw (f.depth, f.each x, f.depths)
    (acts_by (form_at l x) r b.between s (form_at l x).exit refl (subst (λ d. Fits d (form_at l x)) f.depths (left.fits x)) right (b.left x) b.right short)

pub is_join : (l r j : Forms) → Follows l r j → IsBefore l r → IsSound l → IsSound r → IsJoin l r j
is_join l r j f b left right e s short = acts_each l r j f b left right (entry_of e) s (subst (λ d. length s ≤ d) f.depths short)

pub sound_join : (l r j : Forms) → Follows l r j → IsBefore l r → IsSound l → IsSound r → IsSound j
sound_join l r j f b left right =
    record {
      fits = λ x. subst (λ d. Fits d (form_at j x)) (sym f.depth)
          (subst (λ v. Fits r.depth v) (sym (f.each x)) (fits_by r.depth (form_at l x) r (form_at l x).exit (subst (λ d. Fits d (form_at l x)) f.depths (left.fits x)) right.fits));
      agree = λ x s h.
          let short : length s ≤ r.depth = subst (λ d. length s ≤ d) f.depth h in
          acts_each l r j f b left right x s short
          ∙ ap (then_by (answer r)) (left.agree x s (subst (λ d. length s ≤ d) (sym f.depths) short))
          ∙ sym (acts_each l r j f b left right (entry_of (expect_at x (top s))) s short);
    }

pub in_join : (Q : ℕ → Type 0) (l r j : Forms) → Follows l r j → ((x : Entry) → OffsetsIn Q (form_at l x)) → ((x : Entry) → OffsetsIn Q (form_at r x)) → (x : Entry) → OffsetsIn Q (form_at j x)
in_join Q l r j f a b x = subst (λ v. OffsetsIn Q v) (sym (f.each x)) (in_by Q r.depth (form_at l x) r (form_at l x).exit (a x) b)

-- the forms of marks, entry by entry
pub record FromMarks (ms : List Mark) (f : Forms) : Type 0 where
  pub rising : RisingFrom 0 ms
  pub each : (x : Entry) → form_at f x ≡ of_marks f.depth (of_nothing x) ms

marks_each : (ms : List Mark) (f : Forms) → FromMarks ms f → (x : Entry) (s : List Holder) → length s ≤ f.depth
    → acts f.depth (form_at f x) s ≡ read f.depth ms (went (expect_at x (top s)) s)
marks_each ms f m x s short =
    rw (m.each x)
    (acts-of_marks f.depth (of_nothing x) ms 0 s (Fits-of_nothing f.depth x) (OffsetsIn-of_nothing (λ p. p < 0) x) m.rising short
    ∙ ap (read f.depth ms) (acts-of_nothing f.depth x s))

pub plain_entry : (e : Expect) (h : Holder) → expect_at (entry_of e) h ≡ e
plain_entry Value h = refl
plain_entry ArrayFirst h = refl
plain_entry ObjectFirst h = refl
plain_entry Name h = refl
plain_entry Colon h = refl
plain_entry After h = refl

pub is_of : (ms : List Mark) (f : Forms) → FromMarks ms f → IsOf ms f
is_of ms f m e s short = marks_each ms f m (entry_of e) s short ∙ ap (λ e. read f.depth ms (went e s)) (plain_entry e (top s))

pub sound_marks : (ms : List Mark) (f : Forms) → FromMarks ms f → IsSound f
sound_marks ms f m =
    record {
      fits = λ x. subst (λ v. Fits f.depth v) (sym (m.each x)) (Fits-of_marks f.depth (of_nothing x) ms (Fits-of_nothing f.depth x));
      agree = λ x s h. marks_each ms f m x s h ∙ sym (is_of ms f m (expect_at x (top s)) s h);
    }
