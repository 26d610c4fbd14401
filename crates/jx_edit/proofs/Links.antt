-- Where chunks lead, one behind another, through edits and walks.
use Rattle.std.proofs.Common.{◌≡◌, ℕ, zero, suc, ◌+◌, ◌-◌, ◌^◌, ◌<◌, ◌≤◌, List, [], ◌∷◌, ◌++◌, length, map, take, drop, get_or, set, refl, sym, ap, subst, ◌∙◌, arith, inl, inr, Some, true, false, add-one, min, append-nil, append_assoc, length-append}
use Rattle.std.specs.Prelude.{reverse}
use Rattle.std.proofs.lemmas.Bool.{cases_lt}
use Rattle.std.proofs.lemmas.List.{drop-drop, get_or_default, get_or-append_right, length-take-le, set-append_right, take_all, take-set}
use borrow.Rule.Slice.PartMut.{put_mid}
use Rattle.std.proofs.Math.ListN.{length-set}
use Rattle.jx_run.proofs.RunJoin.{Within}
use Rattle.jx_edit.specs.declared.reading.led.Led.{Led as TheLed}
use Rattle.jx_edit.specs.declared.reading.led.Led.TheVariants as led
use Rattle.jx_edit.specs.inside.Leads.{reading_in, IsLedWithin}
use Rattle.jx_lex.specs.declared.alphabet.state.LexState.{LexState}
use Rattle.jx_lex.specs.Lex.{lex}
use Rattle.jx_reduce.specs.declared.table.expect.Expect.{Expect}
use Rattle.jx_reduce.specs.declared.table.holder.Holder.{Holder}
use Rattle.jx_run.specs.Reader as fed_by
use Rattle.jx_run.specs.Reader.{is_fault}
use Rattle.jx_run.specs.Laws.{verdict_of}
use Rattle.jx_run.specs.Reading.{TextReading, went, stopped, too_deep, and_then, read, read_text}
use Rattle.jx_run.specs.ReaderInside.{shifted}
use Rattle.jx_run.specs.Verdict.{Judged}
use Rattle.jx_run.proofs.LawProofs.{FirstFaults, Verdicts}
use Rattle.jx_run.proofs.ReaderSteps.{fed_went, fed_over, low}
use Rattle.jx_edit.specs.inside.Chunks.{ChunkValue, bytes_of, text_of, open_ended, loosened, replaced, AreFresh, IsMade}
use Rattle.jx_edit.specs.inside.Links.{bytes_at, place_behind, AreLinked, IsKept, IsLink, IsWalked}
use Rattle.jx_edit.specs.inside.Sums.{AreLinkedFrom, AreSums}
use Rattle.jx_edit.specs.declared.chunking.sums.Sum.{Sum}
use Rattle.jx_edit.specs.inside.Places.{PlaceValue, came_to, origin, read_on}
use Rattle.jx_edit.proofs.Groups.{kept_items, linked_here, linked_more, linked_past, linked_set, linked_set_behind}
use Rattle.jx_edit.proofs.Texts.{length_more, length_same, made_length, more_within, text_parts, text_take, text_within}

abbrev pub place_in : LexState → Expect → List Holder → PlaceValue
place_in s e o = record { state = s; expect = e; holders = reverse o }

-- ---- lists of chunks

linked_take : (d : ℕ) (p : PlaceValue) (cs : List ChunkValue) (k : ℕ) → AreLinked d p cs → AreLinked d p (take k cs)
linked_take d p [] zero h = tt
linked_take d p [] (suc k) h = tt
linked_take d p (c ∷ cs) zero h = tt
linked_take d p (c ∷ cs) (suc k) h = (h.0, linked_take d c.to cs k h.1)

linked_drop : (d : ℕ) (p : PlaceValue) (cs : List ChunkValue) (k : ℕ) → AreLinked d p cs → AreLinked d (place_behind p (take k cs)) (drop k cs)
linked_drop d p [] zero h = tt
linked_drop d p [] (suc k) h = tt
linked_drop d p (c ∷ cs) zero h = h
linked_drop d p (c ∷ cs) (suc k) h = linked_drop d c.to cs k h.1

linked_join : (d : ℕ) (p : PlaceValue) (cs ds : List ChunkValue) → AreLinked d p cs → AreLinked d (place_behind p cs) ds → AreLinked d p (cs ++ ds)
linked_join d p [] ds h k = k
linked_join d p (c ∷ cs) ds h k = (h.0, linked_join d c.to cs ds h.1 k)

linked_loosened : (d : ℕ) (p q : PlaceValue) (cs : List ChunkValue) → AreLinked d p cs → AreLinked d q (loosened cs)
linked_loosened d p q [] h = tt
linked_loosened d p q (c ∷ cs) h = (record { depth = h.0.depth; leads = λ e. cc }, h.1)

pub linked_fresh : (d : ℕ) (p : PlaceValue) (cs : List ChunkValue) → AreFresh d cs → AreLinked d p cs
linked_fresh d p [] h = tt
linked_fresh d p (c ∷ cs) h =
    let f = h zero c (omega arith) in
    (record { depth = f.depth_is; leads = λ e. let no : true ≡ false = sym e ∙ f.open_ended in cc }, linked_fresh d c.to cs (λ k x l. h (suc k) x (omega (arith, l))))

linked_replaced : (d : ℕ) (p : PlaceValue) (cs made : List ChunkValue) (first last : ℕ) → AreLinked d p cs → AreFresh d made → AreLinked d p (replaced first last made cs)
linked_replaced d p cs made first last h fresh =
    linked_join d p (take first cs ++ made) (loosened (drop last cs))
    (linked_join d p (take first cs) made (linked_take d p cs first h) (linked_fresh d (place_behind p (take first cs)) made fresh))
    (linked_loosened d (place_behind p (take last cs)) (place_behind p (take first cs ++ made)) (drop last cs) (linked_drop d p cs last h))

-- what a text in chunks keeps behind an edit
pub kept_edited : (cs made new : List ChunkValue) (sums : List Sum) (depth len start end first last : ℕ) (replacement : List ℕ) → start ≤ end → end ≤ length (text_of cs)
    → AreLinked depth origin cs → AreFresh depth made → IsMade start end replacement cs first last made → new ≡ replaced first last made cs → AreSums new sums
    → len ≡ (length (text_of cs) - (end - start)) + length replacement → len < 2 ^ 63 → IsKept depth len new sums
kept_edited cs made new sums depth len start end first last replacement h k linked fresh m is summed long fits =
    record {
      linked = subst (AreLinked depth origin) (sym is) (linked_replaced depth origin cs made first last linked fresh);
      summed = summed;
      long = long ∙ sym (made_length cs made start end first last replacement h k m) ∙ ap (λ (xs : List ChunkValue). length (text_of xs)) (sym is);
      fits = fits;
    }

-- ---- the same bytes in other chunks

pub text_map : (cs ds : List ChunkValue) → map bytes_of cs ≡ map bytes_of ds → text_of cs ≡ text_of ds
text_map [] [] e = refl
text_map [] (d ∷ ds) e = absurd cc
text_map (c ∷ cs) [] e = absurd cc
text_map (c ∷ cs) (d ∷ ds) e =
    let a : c.bytes ≡ d.bytes = cc in
    let b : map bytes_of cs ≡ map bytes_of ds = cc in
    ap (λ (t : List ℕ). t ++ text_of cs) a ∙ ap (λ (t : List ℕ). d.bytes ++ t) (text_map cs ds b)

bytes_set : (cs : List ChunkValue) (k : ℕ) (c d : ChunkValue) → k < length cs → c.bytes ≡ (get_or cs k d).bytes → map bytes_of (set cs k c) ≡ map bytes_of cs
bytes_set [] k c d h e = absurd (omega (arith, h))
bytes_set (x ∷ cs) zero c d h e = ap (λ (b : List ℕ). b ∷ map bytes_of cs) e
bytes_set (x ∷ cs) (suc k) c d h e = ap (λ (bs : List (List ℕ)). x.bytes ∷ bs) (bytes_set cs k c d (omega (arith, h)) e)

-- ---- the place behind so many chunks

pub place_suc : (p : PlaceValue) (cs : List ChunkValue) (k : ℕ) (d : ChunkValue) → k < length cs → place_behind p (take (suc k) cs) ≡ (get_or cs k d).to
place_suc p [] k d h = absurd (omega (arith, h))
place_suc p (c ∷ cs) zero d h = refl
place_suc p (c ∷ cs) (suc k) d h = place_suc c.to cs k d (omega (arith, h))

pub link_of : (d : ℕ) (p : PlaceValue) (cs : List ChunkValue) (k : ℕ) (x : ChunkValue) → k < length cs → AreLinked d p cs → IsLink d (place_behind p (take k cs)) (get_or cs k x)
link_of d p [] k x h l = absurd (omega (arith, h))
link_of d p (c ∷ cs) zero x h l = l.0
link_of d p (c ∷ cs) (suc k) x h l = link_of d c.to cs k x (omega (arith, h)) l.1

pub bytes_are : (cs : List ChunkValue) (k : ℕ) (c : ChunkValue) → k < length cs → c ≡ get_or cs k c → bytes_at cs k ≡ c.bytes
bytes_are cs k c h is = there cs k c h ∙ ap bytes_of (sym is)
  where
    there : (cs : List ChunkValue) (k : ℕ) (d : ChunkValue) → k < length cs → bytes_at cs k ≡ (get_or cs k d).bytes
    there [] k d h = absurd (omega (arith, h))
    there (c ∷ cs) zero d h = refl
    there (c ∷ cs) (suc k) d h = there cs k d (omega (arith, h))

-- the place that the last one keeps
pub last_place : (p : PlaceValue) (cs : List ChunkValue) (k : ℕ) (d : ChunkValue) → k + 1 ≡ length cs → place_behind p cs ≡ (get_or cs k d).to
last_place p cs k d h =
    ap (place_behind p) (sym (take_all (suc k) cs (omega (arith, h)))) ∙ place_suc p cs k d (omega (arith, h))

pub depth_of : (d : ℕ) (cs : List ChunkValue) (k : ℕ) (c : ChunkValue) → k < length cs → c ≡ get_or cs k c → AreLinked d origin cs → c.depth ≡ d
depth_of d cs k c h is l = ap (λ (x : ChunkValue). x.depth) is ∙ (link_of d origin cs k c h l).depth

-- the place from which a chunk is followed
pub place_none : (cs : List ChunkValue) (k : ℕ) (p : PlaceValue) → k ≡ 0 → p ≡ origin → p ≡ place_behind origin (take k cs)
place_none cs k p z e = e ∙ ap (λ (n : ℕ). place_behind origin (take n cs)) (sym z)

pub place_before : (cs : List ChunkValue) (k : ℕ) (c : ChunkValue) (p : PlaceValue) → 0 < k → k ≤ length cs → c ≡ get_or cs (k - 1) c → p ≡ c.to → p ≡ place_behind origin (take k cs)
place_before cs k c p above h is e =
    let n : suc (k - 1) ≡ k = omega (arith, above) in
    e ∙ ap (λ (x : ChunkValue). x.to) is ∙ sym (place_suc origin cs (k - 1) c (omega (arith, above, h))) ∙ ap (λ (m : ℕ). place_behind origin (take m cs)) n

pub none_open : (p : PlaceValue) (n : ℕ) → p ≡ origin → length p.holders ≤ n
none_open p n e = subst (λ (q : PlaceValue). length q.holders ≤ n) (sym e) (omega arith)

pub few_open : (d : ℕ) (cs : List ChunkValue) (k : ℕ) (b c : ChunkValue) (p : PlaceValue) → 0 < k → k < length cs → b ≡ get_or cs (k - 1) b → c ≡ get_or cs k c → AreLinked d origin cs
    → length p.holders ≤ b.depth → length p.holders ≤ c.depth
few_open d cs k b c p above h isb isc l e =
    omega (arith, depth_of d cs (k - 1) b (omega (arith, h)) isb l, depth_of d cs k c h isc l, e)

pub leads_from : (d : ℕ) (cs : List ChunkValue) (k : ℕ) (c : ChunkValue) (p : PlaceValue) (r : TextReading) → k < length cs → c ≡ get_or cs k c → AreLinked d origin cs
    → p ≡ place_behind origin (take k cs) → r ≡ read_on c.depth p c.bytes → r ≡ read_on d (place_behind origin (take k cs)) (bytes_at cs k)
leads_from d cs k c p r h is l e reads =
    reads ∙ ap (λ (n : ℕ). read_on n p c.bytes) (depth_of d cs k c h is l) ∙ ap (λ (q : PlaceValue). read_on d q c.bytes) e
    ∙ ap (read_on d (place_behind origin (take k cs))) (sym (bytes_are cs k c h is))

pub within_from : (d : ℕ) (cs : List ChunkValue) (k : ℕ) (c : ChunkValue) (l : TheLed) → k < length cs → c ≡ get_or cs k c → AreLinked d origin cs → IsLedWithin c.depth l → IsLedWithin d l
within_from d cs k c l h is a w = subst (λ (n : ℕ). IsLedWithin n l) (depth_of d cs k c h is a) w

-- where a run leads
pub led_within : (limit : ℕ) (l : TheLed) (r : TextReading) → reading_in l ≡ r → Within limit r → IsLedWithin limit l
led_within limit (led.On p) r e w = subst (Within limit) (sym e) w
led_within limit (led.Stopped at) r e w = tt
led_within limit (led.TooDeep at) r e w = tt

-- ---- a chunk that is linked to another place

-- such a chunk
abbrev pub linked_to : ChunkValue → PlaceValue → ChunkValue
linked_to x to = record { depth = x.depth; bytes = x.bytes; to = to; linked = true }

link_is : (d : ℕ) (cs : List ChunkValue) (k : ℕ) (x c : ChunkValue) (to : PlaceValue) → k < length cs → x ≡ get_or cs k x → AreLinked d origin cs
    → read_on d (place_behind origin (take k cs)) (bytes_at cs k) ≡ came_to to → c ≡ linked_to x to → IsLink d (place_behind origin (take k cs)) c
link_is d cs k x c to h is l leads made =
    subst (IsLink d (place_behind origin (take k cs))) (sym made)
    (record { depth = depth_of d cs k x h is l; leads = λ on. ap (read_on d (place_behind origin (take k cs))) (sym (bytes_are cs k x h is)) ∙ leads })

-- what linking a chunk leaves
pub record IsRelinked (d : ℕ) (cs new : List ChunkValue) (k : ℕ) (to : PlaceValue) : Type 0 where
  pub linked : AreLinked d origin new
  pub bytes : map bytes_of new ≡ map bytes_of cs
  pub place : place_behind origin (take (k + 1) new) ≡ to
  pub on : AreLinkedFrom cs 0 k → AreLinkedFrom new 0 (k + 1)

pub bytes_linked : (cs : List ChunkValue) (k : ℕ) (x c : ChunkValue) (to : PlaceValue) → k < length cs → x ≡ get_or cs k x → c ≡ linked_to x to → map bytes_of (set cs k c) ≡ map bytes_of cs
bytes_linked cs k x c to h is made = bytes_set cs k c x h (ap bytes_of made ∙ ap bytes_of is)

pub bytes_loosened : (cs : List ChunkValue) (k : ℕ) (x e : ChunkValue) → k < length cs → x ≡ get_or cs k x → e ≡ open_ended x → map bytes_of (set cs k e) ≡ map bytes_of cs
bytes_loosened cs k x e h is made = bytes_set cs k e x h (ap bytes_of made ∙ ap bytes_of is)

place_set : (p : PlaceValue) (cs : List ChunkValue) (k : ℕ) (c : ChunkValue) → k < length cs → place_behind p (take (suc k) (set cs k c)) ≡ c.to
place_set p [] k c h = absurd (omega (arith, h))
place_set p (x ∷ cs) zero c h = refl
place_set p (x ∷ cs) (suc k) c h = place_set x.to cs k c (omega (arith, h))

place_linked : (cs : List ChunkValue) (k : ℕ) (x c : ChunkValue) (to : PlaceValue) → k < length cs → c ≡ linked_to x to → place_behind origin (take (k + 1) (set cs k c)) ≡ to
place_linked cs k x c to h made =
    ap (λ (n : ℕ). place_behind origin (take n (set cs k c))) (add-one k) ∙ place_set origin cs k c h ∙ ap (λ (y : ChunkValue). y.to) made

linked_same : (d : ℕ) (p : PlaceValue) (cs : List ChunkValue) (k : ℕ) (c x : ChunkValue) → k < length cs → AreLinked d p cs → IsLink d (place_behind p (take k cs)) c
    → c.to ≡ (get_or cs k x).to → AreLinked d p (set cs k c)
linked_same d p [] k c x h l i e = absurd (omega (arith, h))
linked_same d p (y ∷ cs) zero c x h l i e = (i, subst (λ (q : PlaceValue). AreLinked d q cs) (sym e) l.1)
linked_same d p (y ∷ cs) (suc k) c x h l i e = (l.0, linked_same d y.to cs k c x (omega (arith, h)) l.1 i e)

linked_last : (d : ℕ) (p : PlaceValue) (cs : List ChunkValue) (k : ℕ) (c : ChunkValue) → length cs ≤ suc k → AreLinked d p cs → IsLink d (place_behind p (take k cs)) c → AreLinked d p (set cs k c)
linked_last d p [] k c h l i = tt
linked_last d p (y ∷ []) zero c h l i = (i, tt)
linked_last d p (y ∷ z ∷ cs) zero c h l i = absurd (omega (arith, h))
linked_last d p (y ∷ cs) (suc k) c h l i = (l.0, linked_last d y.to cs k c (omega (arith, h)) l.1 i)

linked_next : (d : ℕ) (p : PlaceValue) (cs : List ChunkValue) (k : ℕ) (c e x : ChunkValue) → suc k < length cs → AreLinked d p cs → IsLink d (place_behind p (take k cs)) c
    → e ≡ open_ended (get_or (set cs k c) (suc k) x) → AreLinked d p (set (set cs k c) (suc k) e)
linked_next d p [] k c e x h l i is = absurd (omega (arith, h))
linked_next d p (y ∷ []) zero c e x h l i is = absurd (omega (arith, h))
linked_next d p (y ∷ z ∷ cs) zero c e x h l i is =
    (i, subst (λ (q : ChunkValue). IsLink d c.to q × AreLinked d q.to cs) (sym is) (record { depth = l.1.0.depth; leads = λ n. cc }, l.1.1))
linked_next d p (y ∷ cs) (suc k) c e x h l i is = (l.0, linked_next d y.to cs k c e x (omega (arith, h)) l.1 i is)

-- to the place that it kept
pub relinked_same : (d : ℕ) (cs : List ChunkValue) (k : ℕ) (x c : ChunkValue) (to : PlaceValue) → k < length cs → x ≡ get_or cs k x → AreLinked d origin cs
    → read_on d (place_behind origin (take k cs)) (bytes_at cs k) ≡ came_to to → c ≡ linked_to x to → to ≡ x.to → IsRelinked d cs (set cs k c) k to
relinked_same d cs k x c to h is l leads made same =
    record {
      linked = linked_same d origin cs k c x h l (link_is d cs k x c to h is l leads made) (ap (λ (y : ChunkValue). y.to) made ∙ same ∙ ap (λ (y : ChunkValue). y.to) is);
      bytes = bytes_linked cs k x c to h is made;
      place = place_linked cs k x c to h made;
      on = linked_set cs k c h (ap (λ (y : ChunkValue). y.linked) made);
    }

-- where none stands behind it
pub relinked_last : (d : ℕ) (cs : List ChunkValue) (k : ℕ) (x c : ChunkValue) (to : PlaceValue) → k < length cs → length cs ≤ k + 1 → x ≡ get_or cs k x → AreLinked d origin cs
    → read_on d (place_behind origin (take k cs)) (bytes_at cs k) ≡ came_to to → c ≡ linked_to x to → IsRelinked d cs (set cs k c) k to
relinked_last d cs k x c to h last is l leads made =
    record {
      linked = linked_last d origin cs k c (omega (arith, last)) l (link_is d cs k x c to h is l leads made);
      bytes = bytes_linked cs k x c to h is made;
      place = place_linked cs k x c to h made;
      on = linked_set cs k c h (ap (λ (y : ChunkValue). y.linked) made);
    }

-- where the next one gives its link up
pub relinked_next : (d : ℕ) (cs : List ChunkValue) (k next : ℕ) (x c y e : ChunkValue) (to : PlaceValue) → k < length cs → next ≡ k + 1 → next < length cs → x ≡ get_or cs k x → AreLinked d origin cs
    → read_on d (place_behind origin (take k cs)) (bytes_at cs k) ≡ came_to to → c ≡ linked_to x to → y ≡ get_or (set cs k c) next y → e ≡ open_ended y
    → IsRelinked d cs (set (set cs k c) next e) k to
relinked_next d cs k next x c y e to h n last is l leads made there is_open_ended =
    let m : next ≡ suc k = n ∙ add-one k in
    let at : get_or (set cs k c) next y ≡ get_or (set cs k c) (suc k) y = ap (λ (i : ℕ). get_or (set cs k c) i y) m in
    let all : length (set cs k c) ≡ length cs = length-set cs k c in
    record {
      linked =
          subst (λ (i : ℕ). AreLinked d origin (set (set cs k c) i e)) (sym m)
          (linked_next d origin cs k c e y (omega (arith, last, m)) l (link_is d cs k x c to h is l leads made) (is_open_ended ∙ ap open_ended (there ∙ at)));
      bytes = bytes_set (set cs k c) next e y (omega (arith, last, all)) (ap bytes_of is_open_ended ∙ ap bytes_of there) ∙ bytes_linked cs k x c to h is made;
      place =
          ap (λ (i : ℕ). place_behind origin (take (k + 1) (set (set cs k c) i e))) n
          ∙ ap (place_behind origin) (take-set (set cs k c) (k + 1) e)
          ∙ place_linked cs k x c to h made;
      on = λ before. linked_set_behind (set cs k c) (k + 1) next e (omega (arith, n)) (linked_set cs k c h (ap (λ (y : ChunkValue). y.linked) made) before);
    }

-- ---- the text, read chunk by chunk

text_suc : (cs : List ChunkValue) (k : ℕ) → k < length cs → text_of (take (suc k) cs) ≡ text_of (take k cs) ++ bytes_at cs k
text_suc [] k h = absurd (omega (arith, h))
text_suc (c ∷ cs) zero h = append-nil c.bytes
text_suc (c ∷ cs) (suc k) h =
    ap (λ (t : List ℕ). c.bytes ++ t) (text_suc cs k (omega (arith, h))) ∙ sym (append_assoc c.bytes (text_of (take k cs)) (bytes_at cs k))

text_at : (cs : List ChunkValue) (k : ℕ) → k < length cs → text_of (take (k + 1) cs) ≡ text_of (take k cs) ++ bytes_at cs k
text_at cs k h = ap (λ (n : ℕ). text_of (take n cs)) (add-one k) ∙ text_suc cs k h

-- one chunk more
walked_to : (limit start : ℕ) (cs : List ChunkValue) (k : ℕ) (r : TextReading) → k < length cs → IsWalked limit start k cs
    → r ≡ read_on limit (place_behind origin (take k cs)) (bytes_at cs k) → read_text limit start (text_of (take (k + 1) cs)) ≡ shifted (start + length (text_of (take k cs))) r
walked_to limit start cs k r h w leads =
    let p : PlaceValue = place_behind origin (take k cs) in
    ap (read_text limit start) (text_at cs k h)
    ∙ fed_went limit start (text_of (take k cs)) (bytes_at cs k) p.state p.expect p.holders w.reads
    ∙ ap (shifted (start + length (text_of (take k cs)))) (sym leads)

-- one that was linked
pub walked_linked : (limit start : ℕ) (cs : List ChunkValue) (k : ℕ) (c : ChunkValue) → k < length cs → c ≡ get_or cs k c → IsWalked limit start k cs → c.linked ≡ true
    → IsWalked limit start (k + 1) cs
walked_linked limit start cs k c h is w on =
    let p : PlaceValue = place_behind origin (take k cs) in
    let link : IsLink limit p c = subst (IsLink limit p) (sym is) (link_of limit origin cs k c h w.linked) in
    let next : place_behind origin (take (k + 1) cs) ≡ c.to = ap (λ (n : ℕ). place_behind origin (take n cs)) (add-one k) ∙ place_suc origin cs k c h ∙ ap (λ (x : ChunkValue). x.to) (sym is) in
    record {
      linked = w.linked;
      on = linked_more cs 0 k w.on (linked_here cs k c h ∙ sym (ap (λ (x : ChunkValue). x.linked) is) ∙ on);
      reads = walked_to limit start cs k (came_to c.to) h w (sym (link.leads on) ∙ ap (read_on limit p) (sym (bytes_are cs k c h is))) ∙ ap came_to (sym next);
    }

-- where none is left
pub walked_past : (limit start : ℕ) (cs : List ChunkValue) (k j : ℕ) → length cs ≤ k → length cs ≤ j → IsWalked limit start k cs → IsWalked limit start j cs
walked_past limit start cs k j h l w =
    let same : take j cs ≡ take k cs = take_all j cs l ∙ sym (take_all k cs h) in
    record {
      linked = w.linked;
      on = λ i low high. elim (cases_lt i k) [
        | inl less ↦ w.on i low less
        | inr past ↦ linked_past cs i (omega (arith, past, h))
      ];
      reads = ap (λ (xs : List ChunkValue). read_text limit start (text_of xs)) same ∙ w.reads ∙ ap (λ (xs : List ChunkValue). came_to (place_behind origin xs)) (sym same);
    }

walked_next : (limit start : ℕ) (cs : List ChunkValue) (k : ℕ) → IsWalked limit start k cs → AreLinkedFrom cs k (k + 1) → IsWalked limit start (k + 1) cs
walked_next limit start [] k w on = walked_past limit start [] k (k + 1) (omega arith) (omega arith) w
walked_next limit start (x ∷ cs) k w on = elim (cases_lt k (length (x ∷ cs))) [
  | inl less ↦ walked_linked limit start (x ∷ cs) k (get_or (x ∷ cs) k x) less (get_or_default (x ∷ cs) k x (get_or (x ∷ cs) k x) less) w (sym (linked_here (x ∷ cs) k x less) ∙ on k (omega arith) (omega arith))
  | inr past ↦ walked_past limit start (x ∷ cs) k (k + 1) past (omega (arith, past)) w
]

-- some that were linked
walked_some : (limit start : ℕ) (cs : List ChunkValue) (k n : ℕ) → IsWalked limit start k cs → AreLinkedFrom cs k (k + n) → IsWalked limit start (k + n) cs
walked_some limit start cs k zero w on = subst (λ (i : ℕ). IsWalked limit start i cs) (omega arith) w
walked_some limit start cs k (suc n) w on =
    subst (λ (i : ℕ). IsWalked limit start i cs) (omega arith)
    (walked_next limit start cs (k + n) (walked_some limit start cs k n w (λ i low high. on i low (omega (arith, high)))) (λ i low high. on i (omega (arith, low)) (omega (arith, high))))

pub walked_over : (limit start : ℕ) (cs : List ChunkValue) (k j : ℕ) → k ≤ j → IsWalked limit start k cs → AreLinkedFrom cs k j → IsWalked limit start j cs
walked_over limit start cs k j h w on =
    let e : k + (j - k) ≡ j = omega (arith, h) in
    subst (λ (i : ℕ). IsWalked limit start i cs) e (walked_some limit start cs k (j - k) w (subst (AreLinkedFrom cs k) (sym e) on))

-- of all that there are of so many
pub walked_all : (limit start : ℕ) (cs : List ChunkValue) (k j : ℕ) → k ≡ min j (length cs) → IsWalked limit start k cs → IsWalked limit start j cs
walked_all limit start cs k j is w = elim (cases_lt k (length cs)) [
  | inl less ↦ subst (λ (i : ℕ). IsWalked limit start i cs) (omega (arith, is, less)) w
  | inr past ↦ walked_past limit start cs k j past (omega (arith, past, is)) w
]

-- one that is linked now
pub walked_on : (limit start : ℕ) (cs ds : List ChunkValue) (k : ℕ) (to : PlaceValue) → k < length cs → IsWalked limit start k cs
    → came_to to ≡ read_on limit (place_behind origin (take k cs)) (bytes_at cs k) → AreLinked limit origin ds → map bytes_of ds ≡ map bytes_of cs
    → place_behind origin (take (k + 1) ds) ≡ to → (AreLinkedFrom cs 0 k → AreLinkedFrom ds 0 (k + 1)) → IsWalked limit start (k + 1) ds
walked_on limit start cs ds k to h w leads linked same next on =
    record {
      linked = linked;
      on = on w.on;
      reads = ap (read_text limit start) (text_take ds cs (k + 1) same) ∙ walked_to limit start cs k (came_to to) h w leads ∙ ap came_to (sym next);
    }

-- one that leads to a fault
pub stopped_at : FirstFaults → (limit start : ℕ) (cs : List ChunkValue) (k at offset sum : ℕ) → k < length cs → IsWalked limit start k cs → start + length (text_of cs) < 2 ^ 64
    → stopped at ≡ read_on limit (place_behind origin (take k cs)) (bytes_at cs k) → offset ≡ start + length (text_of (take k cs)) → sum ≡ min (offset + at) (2 ^ 64 - 1)
    → read_text limit start (text_of (take (k + 1) cs)) ≡ stopped sum
stopped_at law limit start cs k at offset sum h w fits leads here is =
    let e = walked_to limit start cs k (stopped at) h w leads in
    let low_enough : (start + length (text_of (take k cs))) + at < 2 ^ 64 =
    low law limit start (start + length (text_of (take k cs))) (text_of (take (k + 1) cs)) (stopped at) e (omega (arith, fits, text_within cs (k + 1))) in
    let there : (start + length (text_of (take k cs))) + at ≡ sum = omega (arith, low_enough, here, is) in
    e ∙ ap stopped there

pub too_deep_at : FirstFaults → (limit start : ℕ) (cs : List ChunkValue) (k at offset sum : ℕ) → k < length cs → IsWalked limit start k cs → start + length (text_of cs) < 2 ^ 64
    → too_deep at ≡ read_on limit (place_behind origin (take k cs)) (bytes_at cs k) → offset ≡ start + length (text_of (take k cs)) → sum ≡ min (offset + at) (2 ^ 64 - 1)
    → read_text limit start (text_of (take (k + 1) cs)) ≡ too_deep sum
too_deep_at law limit start cs k at offset sum h w fits leads here is =
    let e = walked_to limit start cs k (too_deep at) h w leads in
    let low_enough : (start + length (text_of (take k cs))) + at < 2 ^ 64 =
    low law limit start (start + length (text_of (take k cs))) (text_of (take (k + 1) cs)) (too_deep at) e (omega (arith, fits, text_within cs (k + 1))) in
    let there : (start + length (text_of (take k cs))) + at ≡ sum = omega (arith, low_enough, here, is) in
    e ∙ ap too_deep there

-- ---- verdicts

over : (r : TextReading) → is_fault (Some (fed_by.reads r)) ≡ true → (more : LexState → Expect → List Holder → TextReading) → and_then r more ≡ r
over (went s e o) f more = cc
over (stopped at) f more = refl
over (too_deep at) f more = refl

-- a fault behind so many chunks is that of the whole text
pub judged_at : Verdicts → (limit start : ℕ) (cs ds : List ChunkValue) (k : ℕ) (r : TextReading) → map bytes_of cs ≡ map bytes_of ds → is_fault (Some (fed_by.reads r)) ≡ true
    → read_text limit start (text_of (take k cs)) ≡ r → Judged start (text_of ds) limit (verdict_of r)
judged_at law limit start cs ds k r same fault h =
    let whole : read_text limit start (text_of cs) ≡ r =
    ap (read_text limit start) (text_parts cs k) ∙ fed_over limit start (text_of (take k cs)) (text_of (drop k cs)) r (over r fault) h in
    subst (λ (t : List ℕ). Judged start t limit (verdict_of r)) (text_map cs ds same) (subst (Judged start (text_of cs) limit) (ap verdict_of whole) (law limit start (text_of cs)))

-- behind all chunks
pub judged_end : Verdicts → (limit start : ℕ) (cs ds : List ChunkValue) (k : ℕ) (p : PlaceValue) → map bytes_of cs ≡ map bytes_of ds → length cs ≤ k → IsWalked limit start k cs
    → p ≡ place_behind origin (take k cs) → Judged start (text_of ds) limit (verdict_of (came_to p))
judged_end law limit start cs ds k p same all w is =
    let whole : read_text limit start (text_of cs) ≡ came_to p =
    ap (λ (xs : List ChunkValue). read_text limit start (text_of xs)) (sym (take_all k cs all)) ∙ w.reads ∙ ap came_to (sym is) in
    subst (λ (t : List ℕ). Judged start t limit (verdict_of (came_to p))) (text_map cs ds same) (subst (Judged start (text_of cs) limit) (ap verdict_of whole) (law limit start (text_of cs)))

-- nothing is read
read_nothing : (limit start : ℕ) → read_text limit start [] ≡ came_to origin
unfolding read lex
read_nothing limit start = refl

pub walked_none : (limit start : ℕ) (cs : List ChunkValue) → AreLinked limit origin cs → IsWalked limit start 0 cs
walked_none limit start cs h = record { linked = h; on = λ i low high. absurd (omega (arith, high)); reads = read_nothing limit start }

pub kept_walked : (d len : ℕ) (cs ds : List ChunkValue) (ss ts : List Sum) → IsKept d len cs ss → AreLinked d origin ds → AreSums ds ts → map bytes_of ds ≡ map bytes_of cs → IsKept d len ds ts
kept_walked d len cs ds ss ts h linked sums same = record { linked = linked; summed = sums; long = h.long ∙ ap length (sym (text_map ds cs same)); fits = h.fits }

pub loosened_first : (cs : List ChunkValue) (x e : ChunkValue) → x ≡ get_or cs 0 x → e ≡ open_ended x → set cs 0 e ≡ loosened cs
loosened_first [] x e is made = refl
loosened_first (c ∷ cs) x e is made = ap (λ (y : ChunkValue). y ∷ cs) (made ∙ ap open_ended is)

pub kept_fresh : (d : ℕ) (cs : List ChunkValue) (ss : List Sum) (bytes : List ℕ) → AreFresh d cs → AreSums cs ss → text_of cs ≡ bytes → length bytes < 2 ^ 63 → IsKept d (length bytes) cs ss
kept_fresh d cs ss bytes h sums e fits = record { linked = linked_fresh d origin cs h; summed = sums; long = ap length (sym e); fits = fits }

-- written back into the vectors in which they stood
pub written : (n : ℕ) (items old new : List ChunkValue) → old ≡ items → n ≡ length old → map bytes_of new ≡ map bytes_of old → take n (new ++ drop (length new) items) ≡ new
written n items old new is all same = kept_items n items old new is all (length_same new old same)

pub kept_written : (d len n m : ℕ) (items old new : List ChunkValue) (sums those now : List Sum) → IsKept d len items sums → old ≡ items → n ≡ length old → those ≡ sums → m ≡ length those
    → AreLinked d origin new → map bytes_of new ≡ map bytes_of old → AreSums new now → length now ≡ length those
    → IsKept d len (take n (new ++ drop (length new) items)) (take m (now ++ drop (length now) sums))
kept_written d len n m items old new sums those now h is all are some linked same summed count =
    subst (λ (xs : List ChunkValue). IsKept d len xs (take m (now ++ drop (length now) sums))) (sym (written n items old new is all same))
    (subst (IsKept d len new) (sym (kept_items m sums those now are some count)) (kept_walked d len items new sums now h linked summed (same ∙ ap (map bytes_of) is)))

pub none_behind : (p : PlaceValue) (cs : List ChunkValue) → length cs ≡ 0 → place_behind p cs ≡ p
none_behind p [] h = refl
none_behind p (c ∷ cs) h = absurd (omega (arith, h))

-- ---- offsets of a walk

pub offset_none : (start : ℕ) (cs : List ChunkValue) → start ≡ start + length (text_of (take 0 cs))
offset_none start cs = let e : length (text_of (take 0 cs)) ≡ 0 = refl in omega (arith, e)

pub offset_more : (start offset k : ℕ) (cs ds : List ChunkValue) (c : ChunkValue) (xs : List ℕ) → k < length cs → c ≡ get_or cs k c → xs ≡ c.bytes
    → offset ≡ start + length (text_of (take k cs)) → map bytes_of ds ≡ map bytes_of cs → offset + length xs ≡ start + length (text_of (take (k + 1) ds))
offset_more start offset k cs ds c xs h is same here e =
    let l : length xs ≡ length (get_or cs k c).bytes = ap length same ∙ ap (λ (x : ChunkValue). length x.bytes) is in
    omega (arith, length_more cs k c h, l, here, ap length (text_take ds cs (k + 1) e))

pub offset_fits : (start offset k : ℕ) (cs ds : List ChunkValue) (c : ChunkValue) (xs : List ℕ) → k < length cs → c ≡ get_or cs k c → xs ≡ c.bytes
    → offset ≡ start + length (text_of (take k cs)) → map bytes_of cs ≡ map bytes_of ds → start + length (text_of ds) < 2 ^ 64 → offset + length xs < 2 ^ 64
offset_fits start offset k cs ds c xs h is same here e fits =
    let l : length xs ≡ length (get_or cs k c).bytes = ap length same ∙ ap (λ (x : ChunkValue). length x.bytes) is in
    omega (arith, more_within cs k c h, l, here, fits, ap length (text_map cs ds e))

pub still_fits : (start : ℕ) (cs ds : List ChunkValue) → map bytes_of cs ≡ map bytes_of ds → start + length (text_of ds) < 2 ^ 64 → start + length (text_of cs) < 2 ^ 64
still_fits start cs ds e fits = omega (arith, fits, ap length (text_map cs ds e))

-- ---- places that are the same

pub same_place : (s t : LexState) (e f : Expect) (o p : List Holder) → s ≡ t → e ≡ f → o ≡ p → place_in s e o ≡ place_in t f p
same_place s t e f o p h k l = ap (λ (x : LexState). place_in x e o) h ∙ ap (λ (x : Expect). place_in t x o) k ∙ ap (place_in t f) l

-- ---- as many chunks in the place of some

pub put_is : (cs ys made : List ChunkValue) (first last : ℕ) → first ≤ last → ys ≡ made → put_mid first (last - first) cs ys ≡ (take first cs ++ made) ++ drop last cs
put_is cs ys made first last h is =
    ap (λ (xs : List ChunkValue). take first cs ++ (xs ++ drop (last - first) (drop first cs))) is
    ∙ ap (λ (xs : List ChunkValue). take first cs ++ (made ++ xs)) (drop-drop (last - first) first cs)
    ∙ ap (λ (n : ℕ). take first cs ++ (made ++ drop n cs)) (omega (arith, h))
    ∙ sym (append_assoc (take first cs) made (drop last cs))

pub exchanged : (cs ys made : List ChunkValue) (first last : ℕ) (x e : ChunkValue) → first ≤ last → last ≤ length cs → length made ≡ last - first → ys ≡ made
    → x ≡ get_or (put_mid first (last - first) cs ys) last x → e ≡ open_ended x → set (put_mid first (last - first) cs ys) last e ≡ replaced first last made cs
exchanged cs ys made first last x e h k l is there made_open_ended =
    let front : List ChunkValue = take first cs ++ made in
    let rest : List ChunkValue = drop last cs in
    let whole : put_mid first (last - first) cs ys ≡ front ++ rest = put_is cs ys made first last h is in
    let long : length front ≡ last = omega (arith, length-append (take first cs) made, length-take-le first cs (omega (arith, h, k)), l, h) in
    let none : last - last ≡ 0 = omega arith in
    let here : x ≡ get_or rest 0 x =
    there ∙ ap (λ (xs : List ChunkValue). get_or xs last x) whole ∙ get_or-append_right front rest last last x long (omega arith) ∙ ap (λ (n : ℕ). get_or rest n x) none in
    ap (λ (xs : List ChunkValue). set xs last e) whole
    ∙ set-append_right front rest last last e long (omega arith)
    ∙ ap (λ (n : ℕ). front ++ set rest n e) none
    ∙ ap (λ (xs : List ChunkValue). front ++ xs) (loosened_first rest x e here made_open_ended)
