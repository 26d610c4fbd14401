-- Parts of a stream, one behind another.
use Rattle.std.proofs.Common.{◌≡◌, ◌≢◌, ℕ, List, [], ◌∷◌, ◌++◌, take, drop, append_assoc, append-nil, refl, sym, ap, ◌∙◌, subst, inl, inr, Result, Ok, Err, OnOk}
use Rattle.std.specs.Prelude.{Option, None, Some, is_some, Bool, false, true}
use Rattle.std.specs.Io.KnownBytes.{Appends, Consumes, IsAtEnd, Keeps}
use Rattle.std.proofs.KnownBytes.{Appends-kept, Appends-nil, Appends-trans, Consumes-nil, Consumes-trans}
use Rattle.std.proofs.lemmas.List.{take-append-drop}
use Rattle.std.proofs.lemmas.Grind.{flat_map-append}
use Rattle.jx_index.specs.ByNames.{IsVerdictBy}
use Rattle.jx_run.specs.declared.texts.verdict.Verdict.TheVariants.{Accepted}
use Rattle.jx_wire.specs.Frames.{bodies, fault_of, frame, frames, read_on, start as in_front, Reading}
use Rattle.jx_wire.specs.declared.frame_fault.FrameFault.{FrameFault}
use Rattle.jx_wire.proofs.FrameSteps.{bodies-append, read_on-append}
use Rattle.jx_serve.specs.Messages.{message_settings}
use Rattle.jx_serve.specs.Served.{ServerValue}
use Rattle.jx_serve.specs.Steps.{start, Turns}
use Rattle.jx_serve.specs.Words.{IsMessageOf}
use Rattle.jx_serve.specs.declared.reply.Code.TheVariants.{ParseError}
use Rattle.jx_serve.specs.declared.reply.Reply.{Reply}
use Rattle.jx_serve.specs.declared.reply.Reply.TheVariants.{Nothing, Refused}
use Rattle.jx_serve.specs.declared.server.Phase.{Phase}
use Rattle.jx_serve.specs.declared.server.Phase.TheVariants as phase
use Rattle.jx_lsp.specs.declared.serve.Ended.{Ended}
use Rattle.jx_lsp.specs.declared.serve.Ended.TheVariants.{Early}
use Rattle.jx_lsp.specs.Session.{none_told, one_more, one_told, silent, untold, closing, ended_at, has_left, AreTold, HasStopped, IsServed, Serves, Talks, Writes}
use Rattle.jx_lsp.specs.inside.Parts.{end_of, Ends, Goes, IsGoing, SoFar}

-- ---- replies

talks_join : {a b c : ServerValue} {xs ys : List (List ℕ)} {rs ss : List Reply} → Talks a xs b rs → Talks b ys c ss → Talks a (xs ++ ys) c (rs ++ ss)
talks_join (silent s) more = more
talks_join (one_more first next last body others reply replies stays turns rest) more = one_more first next _ body _ reply _ stays turns (talks_join rest more)

told_join : {rs ss : List Reply} {ms ns : List (List ℕ)} → AreTold rs ms → AreTold ss ns → AreTold (rs ++ ss) (ms ++ ns)
told_join none_told more = more
told_join (untold replies messages rest) more = untold _ _ (told_join rest more)
told_join (one_told reply message replies messages some words is rest) more = one_told reply message _ _ some words is (told_join rest more)

writes_join : (a b c : Option (List ℕ)) (rs ss : List Reply) → Writes rs a b → Writes ss b c → Writes (rs ++ ss) a c
writes_join a b c rs ss v w = record {
  messages = v.messages ++ w.messages;
  told = told_join v.told w.told;
  wrote = subst (Appends a c) (sym (flat_map-append frame v.messages w.messages)) (Appends-trans a b c (frames v.messages) (frames w.messages) v.wrote w.wrote);
}

pub none_written : (a : Option (List ℕ)) → Writes [] a a
none_written a = record { messages = []; told = none_told; wrote = Appends-nil a }

pub nothing_written : (a : Option (List ℕ)) (reply : Reply) → reply ≡ Nothing → Writes (reply ∷ []) a a
nothing_written a reply e = subst (λ (r : Reply). Writes (r ∷ []) a a) (sym e) (record { messages = []; told = untold [] [] none_told; wrote = Appends-nil a })

pub one_written : (a b c : Option (List ℕ)) (reply : Reply) (message bytes : List ℕ) → reply ≢ Nothing → IsMessageOf reply message → IsVerdictBy message_settings message Accepted → bytes ≡ frame message
    → Appends a b bytes → Keeps b c → Writes (reply ∷ []) a c
one_written a b c reply message bytes some words is same wrote kept = record {
  messages = message ∷ [];
  told = one_told reply message [] [] some words is none_told;
  wrote = subst (Appends a c) (sym (append-nil (frame message))) (Appends-kept a b c (frame message) (subst (Appends a b) same wrote) kept);
}

-- ---- bodies

pub none_served : (server : ServerValue) (a : Option (List ℕ)) → Serves server [] server a a
none_served server a = record { replies = []; talks = silent server; writes = none_written a }

pub one_served : (body : List ℕ) (first last : ServerValue) (reply : Reply) (a b : Option (List ℕ)) → has_left first.phase ≡ false → Turns body first last reply → Writes (reply ∷ []) a b
    → Serves first (body ∷ []) last a b
one_served body first last reply a b stays turns writes = record { replies = reply ∷ []; talks = one_more first last last body [] reply [] stays turns (silent last); writes = writes }

serves_join : (r s t : ServerValue) (xs ys : List (List ℕ)) (a b c : Option (List ℕ)) → Serves r xs s a b → Serves s ys t b c → Serves r (xs ++ ys) t a c
serves_join r s t xs ys a b c v w = record { replies = v.replies ++ w.replies; talks = talks_join v.talks w.talks; writes = writes_join a b c v.replies w.replies v.writes w.writes }

-- ---- parts of a stream

pub goes_nowhere : (from : Reading) (first : ServerValue) (a : Option (List ℕ)) (bytes : List ℕ) → Goes from first a bytes from first a bytes
unfolding read_on bodies
goes_nowhere from first a bytes = record { front = []; whole = refl; reads = refl; serves = none_served first a }

pub goes_on : (from mid to : Reading) (first next last : ServerValue) (a b c : Option (List ℕ)) (bytes rest : List ℕ) (taken : ℕ) (ended : List (List ℕ)) → Goes from first a bytes mid next b rest
    → to ≡ read_on mid (take taken rest) → bodies mid (take taken rest) ≡ ended → Serves next ended last b c → Goes from first a bytes to last c (drop taken rest)
goes_on from mid to first next last a b c bytes rest taken ended so_far reads same serves =
    let more = take taken rest in
    let front = so_far.front in
    let whole : bytes ≡ (front ++ more) ++ drop taken rest = so_far.whole ∙ ap (λ l. front ++ l) (sym (take-append-drop taken rest)) ∙ sym (append_assoc front more (drop taken rest)) in
    let there : to ≡ read_on from (front ++ more) = reads ∙ ap (λ (r : Reading). read_on r more) so_far.reads ∙ sym (read_on-append from front more) in
    let all : bodies from front ++ ended ≡ bodies from (front ++ more) =
    ap (λ l. bodies from front ++ l) (sym same ∙ ap (λ (r : Reading). bodies r more) so_far.reads) ∙ sym (bodies-append from front more) in
    record {
      front = front ++ more;
      whole = whole;
      reads = there;
      serves = subst (λ (l : List (List ℕ)). Serves first l last a c) all (serves_join first next last (bodies from front) ended a b c so_far.serves serves);
    }

-- behind a part that was followed whole
pub so_far_more : (u v w a b c : Option (List ℕ)) (from to : Reading) (first last : ServerValue) (bytes : List ℕ) (end : Option Ended) → SoFar u v a b from first → Consumes v w bytes
    → Ends from first b bytes to last c end → end ≡ None → SoFar u w a c to last
so_far_more u v w a b c from to first last bytes end so_far consumed ends none =
    let going = ends.going none in
    let whole : bytes ≡ ends.goes.front = ends.goes.whole ∙ ap (λ l. ends.goes.front ++ l) going.0 ∙ append-nil ends.goes.front in
    let stream = so_far.stream in
    let here : Serves first (bodies from bytes) last b c = subst (λ (o : Option (List ℕ)). Serves first (bodies from bytes) last b o) going.2
    (subst (λ (l : List ℕ). Serves first (bodies from l) last b ends.told) (sym whole) ends.goes.serves) in
    let all : bodies in_front stream ++ bodies from bytes ≡ bodies in_front (stream ++ bytes) =
    ap (λ (r : Reading). bodies in_front stream ++ bodies r bytes) so_far.reads ∙ sym (bodies-append in_front stream bytes) in
    record {
      stream = stream ++ bytes;
      read = Consumes-trans u v w stream bytes so_far.read consumed;
      reads = ends.goes.reads ∙ ap (λ l. read_on from l) (sym whole) ∙ ap (λ (r : Reading). read_on r bytes) so_far.reads ∙ sym (read_on-append in_front stream bytes);
      going = going.1;
      serves = subst (λ (l : List (List ℕ)). Serves start l last a c) all (serves_join start first last (bodies in_front stream) (bodies from bytes) a b c so_far.serves here);
    }

-- behind the part in which the client or the stream ended
pub served_to : (u v w a b c : Option (List ℕ)) (from to : Reading) (first last : ServerValue) (bytes : List ℕ) (end : Option Ended) (ended : Ended) → SoFar u v a b from first → Consumes v w bytes
    → Ends from first b bytes to last c end → end ≡ Some ended → IsServed u w a c ended
served_to u v w a b c from to first last bytes end ended so_far consumed ends is =
    let stream = so_far.stream in
    let front = ends.goes.front in
    let over = ends.over ended is in
    let read : Consumes u w ((stream ++ front) ++ ends.rest) = subst (Consumes u w) (ap (λ l. stream ++ l) ends.goes.whole ∙ sym (append_assoc stream front ends.rest)) (Consumes-trans u v w stream bytes so_far.read consumed) in
    let all : bodies in_front stream ++ bodies from front ≡ bodies in_front (stream ++ front) =
    ap (λ (r : Reading). bodies in_front stream ++ bodies r front) so_far.reads ∙ sym (bodies-append in_front stream front) in
    let there : to ≡ read_on in_front (stream ++ front) = ends.goes.reads ∙ ap (λ (r : Reading). read_on r front) so_far.reads ∙ sym (read_on-append in_front stream front) in
    record {
      stream = stream ++ front;
      rest = ends.rest;
      last = last;
      told = ends.told;
      read = read;
      serves = subst (λ (l : List (List ℕ)). Serves start l last a ends.told) all (serves_join start first last (bodies in_front stream) (bodies from front) a b ends.told so_far.serves ends.goes.serves);
      closes = subst (λ (r : Reading). Writes (closing (has_left last.phase) (fault_of r)) ends.told c) there ends.closes;
      stops = inl (subst (λ (r : Reading). HasStopped last r) there over.1);
      ends = over.0;
    }

stays_early : (p : Phase) → has_left p ≡ false → Early ≡ ended_at p
stays_early (phase.Ended clean) e = absurd cc
stays_early _ e = refl

-- while it goes on nothing more is told
idle : (reading : Reading) (server : ServerValue) (a : Option (List ℕ)) → IsGoing reading server → Writes (closing (has_left server.phase) (fault_of reading)) a a
idle reading server a going =
    subst (λ (o : Option FrameFault). Writes (closing (has_left server.phase) o) a a) (sym going.readable)
    (subst (λ (b : Bool). Writes (closing b None) a a) (sym going.stays) (none_written a))

-- at the end of input
pub served_so_far : (u v w a b : Option (List ℕ)) (reading : Reading) (server : ServerValue) (bytes : List ℕ) → SoFar u v a b reading server → Consumes v w bytes → bytes ≡ [] → IsAtEnd w
    → IsServed u w a b Early
served_so_far u v w a b reading server bytes so_far consumed empty end =
    let stream = so_far.stream in
    record {
      stream = stream;
      rest = [];
      last = server;
      told = b;
      read = subst (λ (l : List ℕ). Consumes u w (stream ++ l)) empty (Consumes-trans u v w stream bytes so_far.read consumed);
      serves = so_far.serves;
      closes = subst (λ (r : Reading). Writes (closing (has_left server.phase) (fault_of r)) b b) so_far.reads (idle reading server b so_far.going);
      stops = inr (refl, end);
      ends = stays_early server.phase so_far.going.stays;
    }

pub so_far_none : (u w : Option (List ℕ)) (reading : Reading) (server : ServerValue) → reading ≡ in_front → server ≡ start → SoFar u u w w reading server
unfolding read_on bodies
so_far_none u w reading server r s = record {
  stream = [];
  read = Consumes-nil u;
  reads = r;
  going = record { readable = ap fault_of r; stays = ap (λ (x : ServerValue). has_left x.phase) s };
  serves = subst (λ (x : ServerValue). Serves start [] x w w) (sym s) (none_served start w);
}

-- ---- how a part ends

pub no_fault : (fault : Option FrameFault) → is_some fault ≡ false → fault ≡ None
no_fault None e = refl
no_fault (Some f) e = absurd cc

pub not_left : (p : Phase) (end : Option Ended) → end ≡ end_of p → is_some end ≡ false → has_left p ≡ false
not_left (phase.Ended true) end e none = absurd cc
not_left (phase.Ended false) end e none = absurd cc
not_left _ end e none = refl

left_so : (p : Phase) (end : Option Ended) (ended : Ended) → end ≡ end_of p → end ≡ Some ended → (ended ≡ ended_at p) × (has_left p ≡ true)
left_so (phase.Ended true) end ended e is = (cc, refl)
left_so (phase.Ended false) end ended e is = (cc, refl)
left_so _ end ended e is = absurd cc

broken : (left : Bool) (fault : Option FrameFault) (a b : Option (List ℕ)) → left ≡ false → is_some fault ≡ true → Writes (Refused None ParseError None ∷ []) a b → Writes (closing left fault) a b
broken true fault a b s e w = absurd cc
broken false None a b s e w = absurd cc
broken false (Some f) a b s e w = w

over : (left : Bool) (fault : Option FrameFault) (a : Option (List ℕ)) → left ≡ true → Writes (closing left fault) a a
over true fault a e = none_written a
over false fault a e = absurd cc

pub ends_whole : (from to : Reading) (first last : ServerValue) (a b : Option (List ℕ)) (bytes rest : List ℕ) → Goes from first a bytes to last b rest → rest ≡ [] → IsGoing to last
    → Ends from first a bytes to last b None
ends_whole from to first last a b bytes rest goes empty going = record {
  rest = rest;
  told = b;
  goes = goes;
  closes = idle to last b going;
  going = λ e. (empty, going, refl);
  over = λ ended e. absurd cc;
}

-- the client has left
pub ends_by : (from to : Reading) (first last : ServerValue) (a b : Option (List ℕ)) (bytes rest : List ℕ) (end : Option Ended) → Goes from first a bytes to last b rest → end ≡ end_of last.phase
    → is_some end ≡ true → Ends from first a bytes to last b end
ends_by from to first last a b bytes rest None goes is some = absurd cc
ends_by from to first last a b bytes rest (Some how) goes is some =
    let gone = left_so last.phase (Some how) how is refl in
    record {
      rest = rest;
      told = b;
      goes = goes;
      closes = over (has_left last.phase) (fault_of to) b gone.1;
      going = λ e. absurd cc;
      over = λ ended e. let same = left_so last.phase (Some how) ended is e in (same.0, inl same.1);
    }

-- the stream cannot be read on
pub ends_broken : (from to : Reading) (first last : ServerValue) (a b c : Option (List ℕ)) (bytes rest : List ℕ) (reply : Reply) → Goes from first a bytes to last b rest
    → has_left last.phase ≡ false → is_some (fault_of to) ≡ true → reply ≡ Refused None ParseError None → Writes (reply ∷ []) b c → Ends from first a bytes to last c (Some Early)
ends_broken from to first last a b c bytes rest reply goes stays some same writes = record {
  rest = rest;
  told = b;
  goes = goes;
  closes = broken (has_left last.phase) (fault_of to) b c stays some (subst (λ (r : Reply). Writes (r ∷ []) b c) same writes);
  going = λ e. absurd cc;
  over = λ ended e. let first_is : Early ≡ ended = cc in (sym first_is ∙ stays_early last.phase stays, inr some);
}

-- ---- what holds where a call gives Ok

pub on_ok : {T E A : Type 0} (result : Result T E) → A → OnOk result A
on_ok (Ok x) it = it
on_ok (Err e) it = tt

pub carried : {T E A B : Type 0} (result : Result T E) → OnOk result A → (A → B) → OnOk result B
carried (Ok x) holds goes = goes holds
carried (Err e) holds goes = holds
