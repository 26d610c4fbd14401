-- Where several bytes of a stream of frames lead.
use Rattle.std.proofs.Common.{min, take, get_or, ◌≡◌, ◌≢◌, ℕ, suc, ◌+◌, ◌-◌, ◌<◌, ◌≤◌, false, List, [], ◌∷◌, ◌++◌, length, append_assoc, append-nil, refl, sym, ap, ◌∙◌, arith, lt-ltb, subst}
use Rattle.std.specs.Prelude.{◌==◌, Option}
use Rattle.std.proofs.Math.Nat.{min-le_left, min-le_right}
use Rattle.std.proofs.lemmas.Bool.Decides.{nat_tests}
use Rattle.std.proofs.lemmas.List.{length-append, length-take-le}
use Rattle.jx_wire.specs.declared.frame_fault.FrameFault.{FrameFault}
use Rattle.jx_wire.specs.declared.frame_reader.Part.TheVariants.{Head, Body, Broken}
use Rattle.jx_wire.specs.Frames.{Reading, Step, start, going, step, read_on, bodies}

pub read_on-append : (r : Reading) (xs ys : List ℕ) → read_on r (xs ++ ys) ≡ read_on (read_on r xs) ys
unfolding read_on
read_on-append r [] ys = refl
read_on-append r (b ∷ xs) ys = read_on-append (step r b).to xs ys

pub bodies-append : (r : Reading) (xs ys : List ℕ) → bodies r (xs ++ ys) ≡ bodies r xs ++ bodies (read_on r xs) ys
unfolding read_on bodies
bodies-append r [] ys = refl
bodies-append r (b ∷ xs) ys =
    ap (λ l. (step r b).ended ++ l) (bodies-append (step r b).to xs ys)
    ∙ sym (append_assoc (step r b).ended (bodies (step r b).to xs) (bodies (read_on (step r b).to xs) ys))

-- ---- bytes of one part

-- they lead from one reading to another, and end these bodies
pub record Leads (r : Reading) (bytes : List ℕ) (to : Reading) (ended : List (List ℕ)) : Type 0 where
  pub reads : read_on r bytes ≡ to
  pub ends : bodies r bytes ≡ ended

pub nowhere : (r : Reading) → Leads r [] r []
unfolding read_on bodies
nowhere r = record { reads = refl; ends = refl }

pub one_byte : (r : Reading) (b : ℕ) → Leads r (b ∷ []) (step r b).to (step r b).ended
unfolding read_on bodies
one_byte r b = record { reads = refl; ends = append-nil (step r b).ended }

-- a byte, and then others
pub and_then : (r s to : Reading) (b : ℕ) (bytes : List ℕ) (first rest : List (List ℕ)) → step r b ≡ record { to = s; ended = first } → Leads s bytes to rest → Leads r (b ∷ bytes) to (first ++ rest)
unfolding read_on bodies
and_then r s to b bytes first rest e leads = record {
  reads = ap (λ (x : Step). read_on x.to bytes) e ∙ leads.reads;
  ends = ap (λ (x : Step). x.ended ++ bodies x.to bytes) e ∙ ap (λ l. first ++ l) leads.ends;
}

-- several, and then others
pub and_others : (r s to : Reading) (xs ys : List ℕ) (first rest : List (List ℕ)) → Leads r xs s first → Leads s ys to rest → Leads r (xs ++ ys) to (first ++ rest)
and_others r s to xs ys first rest one other = record {
  reads = read_on-append r xs ys ∙ ap (λ x. read_on x ys) one.reads ∙ other.reads;
  ends = bodies-append r xs ys ∙ ap (λ l. l ++ bodies (read_on r xs) ys) one.ends ∙ ap (λ x. first ++ bodies x ys) one.reads ∙ ap (λ l. first ++ l) other.ends;
}

abbrev pub in_the_body : ℕ → List ℕ → Reading
in_the_body missing held = record { part = Body missing; held = held }

abbrev pub in_the_head : Option ℕ → List ℕ → Reading
in_the_head given held = record { part = Head given; held = held }

body_more : (missing : ℕ) (held : List ℕ) (b : ℕ) → 1 < missing → step (in_the_body missing held) b ≡ going (in_the_body (missing - 1) (held ++ (b ∷ [])))
body_more missing held b h = rw (lt-ltb 1 missing h)

-- fewer bytes than are missing
pub body_part : (missing : ℕ) (held bytes : List ℕ) → length bytes < missing → Leads (in_the_body missing held) bytes (in_the_body (missing - length bytes) (held ++ bytes)) []
body_part missing held [] h =
    let n : missing ≡ missing - 0 = omega arith in
    let e : in_the_body missing held ≡ in_the_body (missing - 0) (held ++ []) = ap (λ k. in_the_body k held) n ∙ ap (λ l. in_the_body (missing - 0) l) (sym (append-nil held)) in
    subst (λ to. Leads (in_the_body missing held) [] to []) e (nowhere (in_the_body missing held))
body_part missing held (b ∷ bytes) h =
    let n : missing - 1 - length bytes ≡ missing - suc (length bytes) = omega arith in
    let e : in_the_body (missing - 1 - length bytes) ((held ++ (b ∷ [])) ++ bytes) ≡ in_the_body (missing - suc (length bytes)) (held ++ (b ∷ bytes)) =
    ap (λ k. in_the_body k ((held ++ (b ∷ [])) ++ bytes)) n ∙ ap (λ l. in_the_body (missing - suc (length bytes)) l) (append_assoc held (b ∷ []) bytes) in
    let inner = body_part (missing - 1) (held ++ (b ∷ [])) bytes (omega arith) in
    and_then (in_the_body missing held) (in_the_body (missing - 1) (held ++ (b ∷ []))) _ b bytes [] [] (body_more missing held b (omega arith))
    (subst (λ to. Leads (in_the_body (missing - 1) (held ++ (b ∷ []))) bytes to []) e inner)

-- as many as are missing
pub body_whole : (missing : ℕ) (held bytes : List ℕ) → 0 < missing → length bytes ≡ missing → Leads (in_the_body missing held) bytes start ((held ++ bytes) ∷ [])
body_whole missing held [] h e = absurd (omega arith)
body_whole missing held (b ∷ []) h e =
    let one : missing ≡ 1 = omega arith in
    subst (λ k. Leads (in_the_body k held) (b ∷ []) start ((held ++ (b ∷ [])) ∷ [])) (sym one) (one_byte (in_the_body 1 held) b)
body_whole missing held (b ∷ c ∷ bytes) h e =
    let inner = body_whole (missing - 1) (held ++ (b ∷ [])) (c ∷ bytes) (omega arith) (omega arith) in
    and_then (in_the_body missing held) (in_the_body (missing - 1) (held ++ (b ∷ []))) start b (c ∷ bytes) [] ((held ++ (b ∷ c ∷ bytes)) ∷ []) (body_more missing held b (omega arith))
    (subst (λ l. Leads (in_the_body (missing - 1) (held ++ (b ∷ []))) (c ∷ bytes) start (l ∷ [])) (append_assoc held (b ∷ []) (c ∷ bytes)) inner)

-- no line feed among the bytes
abbrev pub HasNoFeed : List ℕ → Type 0
HasNoFeed [] = Unit {0}
HasNoFeed (b ∷ bytes) = (b ≢ 0x0a) × HasNoFeed bytes

pub no_feed-append : (xs ys : List ℕ) → HasNoFeed xs → HasNoFeed ys → HasNoFeed (xs ++ ys)
no_feed-append [] ys h k = k
no_feed-append (b ∷ xs) ys h k = (h.0, no_feed-append xs ys h.1 k)

head_more : (given : Option ℕ) (held : List ℕ) (b : ℕ) → b ≢ 0x0a → length held < 1024 → step (in_the_head given held) b ≡ going (in_the_head given (held ++ (b ∷ [])))
head_more given held b n h =
    let e : (b == 0x0a) ≡ false = grind (arith, nat_tests) in
    rw (e, lt-ltb (length held) 1024 h)

-- a part of a line
pub head_part : (given : Option ℕ) (held bytes : List ℕ) → HasNoFeed bytes → length held + length bytes ≤ 1024 → Leads (in_the_head given held) bytes (in_the_head given (held ++ bytes)) []
head_part given held [] n h = subst (λ l. Leads (in_the_head given held) [] (in_the_head given l) []) (sym (append-nil held)) (nowhere (in_the_head given held))
head_part given held (b ∷ bytes) n h =
    let inner = head_part given (held ++ (b ∷ [])) bytes n.1 (omega (arith, length-append held (b ∷ []))) in
    and_then (in_the_head given held) (in_the_head given (held ++ (b ∷ []))) _ b bytes [] [] (head_more given held b n.0 (omega arith))
    (subst (λ l. Leads (in_the_head given (held ++ (b ∷ []))) bytes (in_the_head given l) []) (append_assoc held (b ∷ []) bytes) inner)

-- behind a fault all bytes are passed over
pub broken_stays : (fault : FrameFault) (held bytes : List ℕ) → Leads (record { part = Broken fault; held = held }) bytes (record { part = Broken fault; held = held }) []
broken_stays fault held [] = nowhere _
broken_stays fault held (b ∷ bytes) = and_then _ (record { part = Broken fault; held = held }) _ b bytes [] [] refl (broken_stays fault held bytes)

-- ---- what is fed of a body

taken_count : (missing taken : ℕ) (bytes : List ℕ) → taken ≡ min missing (length bytes) → length (take taken bytes) ≡ taken
taken_count missing taken bytes t =
    let most : taken ≤ length bytes = omega (arith, min-le_right missing (length bytes)) in
    length-take-le taken bytes most

fed_at : (r : Reading) (missing : ℕ) (bytes : List ℕ) (to : Reading) (ended : List (List ℕ)) → r.part ≡ Body missing → Leads (in_the_body missing r.held) bytes to ended → Leads r bytes to ended
fed_at r missing bytes to ended e leads =
    let same : in_the_body missing r.held ≡ r = ap (λ p. let x : Reading = record { part = p; held = r.held } in x) (sym e) in
    subst (λ x. Leads x bytes to ended) same leads

pub fed_part : (r : Reading) (missing taken : ℕ) (bytes : List ℕ) → r.part ≡ Body missing → taken ≡ min missing (length bytes) → taken < missing
    → Leads r (take taken bytes) (in_the_body (missing - taken) (r.held ++ take taken bytes)) []
fed_part r missing taken bytes e t h =
    let count : length (take taken bytes) ≡ taken = taken_count missing taken bytes t in
    let leads = body_part missing r.held (take taken bytes) (omega arith) in
    fed_at r missing _ _ [] e (subst (λ k. Leads (in_the_body missing r.held) (take taken bytes) (in_the_body (missing - k) (r.held ++ take taken bytes)) []) count leads)

pub fed_whole : (r : Reading) (missing taken : ℕ) (bytes : List ℕ) → r.part ≡ Body missing → taken ≡ min missing (length bytes) → 0 < missing → missing ≤ taken
    → Leads r (take taken bytes) start ((r.held ++ take taken bytes) ∷ [])
fed_whole r missing taken bytes e t s h =
    let count : length (take taken bytes) ≡ taken = taken_count missing taken bytes t in
    let most : taken ≤ missing = omega (arith, min-le_left missing (length bytes)) in
    fed_at r missing _ _ _ e (body_whole missing r.held (take taken bytes) s (omega arith))

pub fed_broken : (r : Reading) (fault : FrameFault) (bytes : List ℕ) → r.part ≡ Broken fault → Leads r bytes r []
fed_broken r fault bytes e =
    let same : (let x : Reading = record { part = Broken fault; held = r.held } in x) ≡ r = ap (λ p. let x : Reading = record { part = p; held = r.held } in x) (sym e) in
    subst (λ x. Leads x bytes x []) same (broken_stays fault r.held bytes)

take_one : (bytes : List ℕ) → 0 < length bytes → take 1 bytes ≡ get_or bytes 0 0 ∷ []
take_one [] h = absurd (omega arith)
take_one (b ∷ bytes) h = refl

pub fed_one : (r : Reading) (bytes : List ℕ) → 0 < length bytes → Leads r (take 1 bytes) (step r (get_or bytes 0 0)).to (step r (get_or bytes 0 0)).ended
fed_one r bytes h = subst (λ l. Leads r l (step r (get_or bytes 0 0)).to (step r (get_or bytes 0 0)).ended) (sym (take_one bytes h)) (one_byte r (get_or bytes 0 0))
