-- The lines of a node's effects, one behind another: each fits those before it, and behind them they tell of the frames that are there
-- then.
use Rattle.arj_law_parts.proofs.Words
use Words.{◌≡◌, ◌∙◌, ◌+◌, ◌-◌, ◌≤◌, ◌<◌, ◌==◌, ◌&&◌, not, ℕ, zero, suc, Bool, true, false, cond, List, [], ◌∷◌, ◌++◌, length, refl, sym, ap}
use Words.{subst, arith, Some, take, nat_le, nat_lt, nat_tests, length-append, append-nil, append_assoc, and_parts, list_all}
use Words.{AllByRecursion, at_place, is_some, Node, Body, Header, Message, Frame, Effect, Say, Send, Do, Disk, Stop, worked, bodies, cut}
use Words.{frame_kind}
use Words.{frames_with, most_frames, new_frame, numbered, sends, sent_line}
use Words.body
use Words.message
use Rattle.arj_law_parts.proofs.steps.Still.{Still, is_still, says_still}
use Rattle.arj_law_runs.proofs.follow.Telling.{Tells, nothing_tells, send_tells, tells_nothing}
use Rattle.arj_law_runs.specs.follow.Frames.{are_so, frame_fits}
use Rattle.arj_model.specs.CauseNodes.{is_junk_to}
use Rattle.arj_model.specs.CauseSpans.{Here, behind, same_frame}
use Rattle.arj_model.specs.Refusals.{is_down, is_node, last_frame}
use Rattle.arj_protocol.specs.Words.{frame.Junk}

-- behind these lines
abbrev pub behind_all : Here → List Body → Here
behind_all h [] = h
behind_all h (b ∷ bs) = behind_all (behind h b) bs

-- each fits
abbrev pub Fit : Here → List Body → Type 0
Fit h bs = are_so frame_fits h bs ≡ true

pub fit_both : (h : Here) (cs bs : List Body) → Fit h cs → Fit (behind_all h cs) bs → Fit h (cs ++ bs)
fit_both h [] bs first more = more
fit_both h (a ∷ cs) bs first more =
    let p = and_parts (frame_fits h a) (are_so frame_fits (behind h a) cs) first in λ i. p.0 i && fit_both (behind h a) cs bs p.1 more i

pub behind_both : (h : Here) (cs bs : List Body) → behind_all h (cs ++ bs) ≡ behind_all (behind_all h cs) bs
behind_both h [] bs = refl
behind_both h (a ∷ cs) bs = behind_both (behind h a) cs bs

pub lines_behind : (h : Here) (bs : List Body) → (behind_all h bs).lines ≡ h.lines ++ numbered h.number bs
lines_behind h [] = sym (append-nil h.lines)
lines_behind h (b ∷ bs) = lines_behind (behind h b) bs ∙ append_assoc h.lines (record { event = h.number; body = b } ∷ [])
    (numbered h.number bs)

-- all but the lines is as it was
pub record Stays (h g : Here) : Type 0 where
  pub header : g.header ≡ h.header
  pub start : g.start ≡ h.start
  pub event : g.event ≡ h.event
  pub number : g.number ≡ h.number
  pub first : g.first ≡ h.first

pub stays_behind : (h : Here) (bs : List Body) → Stays h (behind_all h bs)
stays_behind h [] = record { header = refl; start = refl; event = refl; number = refl; first = refl }
stays_behind h (b ∷ bs) = let s = stays_behind (behind h b) bs in
    record { header = s.header; start = s.start; event = s.event; number = s.number; first = s.first }

-- what is told where the line comes
abbrev pub Telling : Here → List Frame → List Node → Type 0
Telling h fs ns = Tells h.start h.lines fs ns

-- these lines fit, and behind them this is told
pub record Goes (h : Here) (bs : List Body) (fs : List Frame) (ns : List Node) : Type 0 where
  pub fit : Fit h bs
  pub tells : Telling (behind_all h bs) fs ns

pub goes_both : (h : Here) (cs bs : List Body) (fs gs : List Frame) (ns ms : List Node) → Goes h cs fs ns → Goes (behind_all h cs) bs gs ms
    →
    Goes h (cs ++ bs) gs ms
goes_both h cs bs fs gs ns ms a b = record {
  fit = fit_both h cs bs a.fit b.fit;
  tells = subst (λ g. Telling g gs ms) (sym (behind_both h cs bs)) b.tells;
}

pub goes_one : (h : Here) (b : Body) (fs : List Frame) (ns : List Node) → frame_fits h b ≡ true → Telling (behind h b) fs ns → Goes h
    (b ∷ []) fs ns
goes_one h b fs ns fits tells = record { fit = λ i. fits i && true; tells = tells }

pub goes_first : (h : Here) (b : Body) (bs : List Body) (fs : List Frame) (ns : List Node) → frame_fits h b ≡ true → Goes (behind h b) bs
    fs ns →
    Goes h (b ∷ bs) fs ns
goes_first h b bs fs ns fits more = record { fit = λ i. fits i && more.fit i; tells = more.tells }

pub goes_none : (h : Here) (fs : List Frame) (ns : List Node) → Telling h fs ns → Goes h [] fs ns
goes_none h fs ns t = record { fit = refl; tells = t }

-- ---- still lines

-- a still line tells nothing, and fits anywhere
pub still_nothing : (b : Body) → is_still b ≡ true → tells_nothing b ≡ true
still_nothing (body.Began a b c d) is = refl
still_nothing (body.Ok a b c d) is = refl
still_nothing (body.Includes a b c) is = refl
still_nothing (body.Conflict a b c d) is = refl
still_nothing (body.Lost a b) is = refl
still_nothing (body.Changed a b c) is = refl
still_nothing (body.Committing a) is = refl
still_nothing (body.Committed a) is = refl
still_nothing (body.Ended a) is = refl
still_nothing (body.Aborted a b) is = refl
still_nothing (body.GaveUp a b) is = refl
still_nothing (body.Excluded a b c) is = refl
still_nothing (body.Granted a b c d) is = refl
still_nothing (body.Lowered a b c) is = refl
still_nothing (body.Bound a b c) is = refl
still_nothing (body.Active a b c) is = refl
still_nothing (body.Told a b c d) is = refl
still_nothing (body.Prepared a b c) is = refl
still_nothing (body.Done a b c d) is = refl
still_nothing (body.Sent a b c d) is = is
still_nothing (body.Got a) is = is
still_nothing (body.Void a) is = is
still_nothing (body.Dropped a) is = is
still_nothing (body.Halted a) is = is
still_nothing (body.Up a b) is = is
still_nothing (body.Armed a) is = refl
still_nothing (body.Recovered a b) is = refl
still_nothing (body.Refused a) is = refl
still_nothing (body.Entry a b c d) is = refl
still_nothing (body.Copy a b c d e) is = refl
still_nothing (body.Quiet a) is = refl
still_nothing (body.Bad a) is = refl
still_nothing (body.Limit a) is = refl

pub still_fits : (h : Here) (b : Body) → is_still b ≡ true → frame_fits h b ≡ true
still_fits h (body.Began a b c d) is = refl
still_fits h (body.Ok a b c d) is = refl
still_fits h (body.Includes a b c) is = refl
still_fits h (body.Conflict a b c d) is = refl
still_fits h (body.Lost a b) is = refl
still_fits h (body.Changed a b c) is = refl
still_fits h (body.Committing a) is = refl
still_fits h (body.Committed a) is = refl
still_fits h (body.Ended a) is = refl
still_fits h (body.Aborted a b) is = refl
still_fits h (body.GaveUp a b) is = refl
still_fits h (body.Excluded a b c) is = refl
still_fits h (body.Granted a b c d) is = refl
still_fits h (body.Lowered a b c) is = refl
still_fits h (body.Bound a b c) is = refl
still_fits h (body.Active a b c) is = refl
still_fits h (body.Told a b c d) is = refl
still_fits h (body.Prepared a b c) is = refl
still_fits h (body.Done a b c d) is = refl
still_fits h (body.Sent a b c d) is = let no_way : false ≡ true = is in cc
still_fits h (body.Got a) is = let no_way : false ≡ true = is in cc
still_fits h (body.Void a) is = let no_way : false ≡ true = is in cc
still_fits h (body.Dropped a) is = let no_way : false ≡ true = is in cc
still_fits h (body.Halted a) is = let no_way : false ≡ true = is in cc
still_fits h (body.Up a b) is = refl
still_fits h (body.Armed a) is = let no_way : false ≡ true = is in cc
still_fits h (body.Recovered a b) is = refl
still_fits h (body.Refused a) is = refl
still_fits h (body.Entry a b c d) is = refl
still_fits h (body.Copy a b c d e) is = refl
still_fits h (body.Quiet a) is = refl
still_fits h (body.Bad a) is = refl
still_fits h (body.Limit a) is = refl

-- ---- frames that fit into a run

pub take_none : {A : Type 0} (k : ℕ) → ◌≡◌ {A = List A} (take k []) []
take_none zero = refl
take_none (suc k) = refl

pub frames_none : (fs : List Frame) → frames_with fs [] ≡ fs
frames_none fs = ap (λ xs. fs ++ xs) (take_none (most_frames - length fs)) ∙ append-nil fs

frames_more : (fs new : List Frame) (f : Frame) → length fs < most_frames → frames_with fs (f ∷ new) ≡ frames_with (fs ++ f ∷ []) new
frames_more fs new f few =
    ap (λ k. fs ++ take k (f ∷ new)) less ∙ sym (append_assoc fs (f ∷ []) (take (most_frames - length (fs ++ f ∷ [])) new))
  where
    less : most_frames - length fs ≡ suc (most_frames - length (fs ++ f ∷ []))
    less = let long = length-append fs (f ∷ []) in omega (arith, few, long)

pub frames_full : (fs new : List Frame) → most_frames ≤ length fs → frames_with fs new ≡ fs
frames_full fs new full = ap (λ k. fs ++ take k new) none ∙ append-nil fs
  where
    none : most_frames - length fs ≡ 0
    none = omega (arith, full)

-- where they aren't, no message's line is written
pub no_junk : (m : Message) → same_frame (frame_kind m) Junk ≡ false
no_junk (message.Bind m) = refl
no_junk (message.Bound m) = refl
no_junk (message.Load m) = refl
no_junk (message.Loaded m) = refl
no_junk (message.Activate m) = refl
no_junk (message.Activated m) = refl
no_junk (message.RecordMsg m) = refl
no_junk (message.Recorded m) = refl
no_junk (message.Invoke m) = refl
no_junk (message.Invoked m) = refl
no_junk (message.Vote m) = refl
no_junk (message.Voted m) = refl
no_junk (message.Prepare m) = refl
no_junk (message.Prepared m) = refl
no_junk (message.Confirm m) = refl
no_junk (message.Confirmed m) = refl
no_junk (message.Told m) = refl
no_junk (message.Acked m) = refl
no_junk (message.Query m) = refl
no_junk (message.Hello m) = refl

-- each of these frames is for a node
abbrev pub AreFor : Header → List Frame → Type 0
AreFor hd fs = AllByRecursion (λ (f : Frame). is_node hd f.to ≡ true) fs

pub for_first : (hd : Header) (fs gs : List Frame) → AreFor hd (fs ++ gs) → AreFor hd fs
for_first hd [] gs all = tt
for_first hd (f ∷ fs) gs all = (all.0, for_first hd fs gs all.1)

for_last : (hd : Header) (fs gs : List Frame) (f : Frame) → AreFor hd ((fs ++ f ∷ []) ++ gs) → is_node hd f.to ≡ true
for_last hd [] gs f all = all.0
for_last hd (g ∷ fs) gs f all = for_last hd fs gs f all.1

-- ---- the effects of a node that is up

and_all : {a b : Bool} → a ≡ true → b ≡ true → (a && b) ≡ true
and_all a b = λ i. a i && b i

-- the node's effects, where no more frames fit
module _ (k : ℕ) (fs : List Frame) (ns : List Node) where
  full_goes : (outs : List Effect) (j : ℕ) (h : Here) → most_frames ≤ j → Still outs → Telling h fs ns → Goes h (bodies k j outs) fs ns
  full_goes [] j h full all t = goes_none h fs ns t
  full_goes (Say b ∷ es) j h full all t =
      let own = and_parts (is_still b) (list_all says_still es) all in
      goes_first h b (bodies k j es) fs ns (still_fits h b own.0)
      (full_goes es j (behind h b) full own.1 (nothing_tells h.start h.number h.lines fs ns b (still_nothing b own.0) t))
  full_goes (Do w ∷ es) j h full all t = full_goes es j h full all t
  full_goes (Send to m ∷ es) j h full all t =
      subst (λ x. Goes h (cond x (body.Sent (j + 1) k to (frame_kind m) ∷ []) [] ++ bodies k (j + 1) es) fs ns) (sym over)
      (full_goes es (j + 1) h (omega (arith, full)) all t)
    where
      over : nat_le (j + 1) most_frames ≡ false
      over = past j most_frames full
        where
          past : (j n : ℕ) → n ≤ j → nat_le (j + 1) n ≡ false
          past j n full = grind (arith, nat_tests, full)

-- a node of the header, that is up
pub record IsUp (hd : Header) (k : ℕ) (ns : List Node) : Type 0 where
  pub node : Node
  pub there : at_place k ns ≡ Some node
  pub up : is_some node.live ≡ true
  pub number : is_node hd k ≡ true

module _ (hd : Header) (k : ℕ) (ns : List Node) (u : IsUp hd k ns) where
  -- such a node isn't nobody
  somebody : (k == 0) ≡ false
  somebody = by k u.number
    where
      by : (n : ℕ) → is_node hd n ≡ true → (n == 0) ≡ false
      by zero is = let no_way : false ≡ true = is in cc
      by (suc n) is = some n
        where
          some : (n : ℕ) → (suc n == 0) ≡ false
          some n = grind (arith, nat_tests)

  sent_fits : (h : Here) (fs : List Frame) (to : ℕ) (m : Message) → h.header ≡ hd → is_node hd to ≡ true → Telling h fs ns →
      frame_fits h (body.Sent (length fs + 1) k to (frame_kind m)) ≡ true
  sent_fits h fs to m header for t =
      and_all number (and_all (subst (λ x. is_node x to ≡ true) (sym header) for)
      (subst (λ b. cond b (is_junk_to to h.event && same_frame (frame_kind m) Junk)
      (is_node h.header k && (not (is_down h.start h.lines k) && not (same_frame (frame_kind m) Junk))) ≡ true) (sym somebody)
      (and_all (subst (λ x. is_node x k ≡ true) (sym header) u.number)
      (and_all ((λ i. not (t.ups k u.node u.there i)) ∙ (λ i. not (not (u.up i)))) (λ i. not (no_junk m i))))))
    where
      number : (length fs + 1 == last_frame h.lines + 1) ≡ true
      number = subst (λ n. (length fs + 1 == n + 1) ≡ true) (sym t.last) (same (length fs + 1))
        where
          same : (n : ℕ) → (n == n) ≡ true
          same n = grind (arith, nat_tests)

  pub plain_goes : (outs : List Effect) (h : Here) (fs : List Frame) → h.header ≡ hd → Still outs → length fs ≤ most_frames →
      AreFor hd (frames_with fs (sends k outs)) → Telling h fs ns → Goes h (bodies k (length fs) outs) (frames_with fs (sends k outs)) ns
  plain_goes [] h fs header all few for t = subst (λ gs. Goes h [] gs ns) (sym (frames_none fs)) (goes_none h fs ns t)
  plain_goes (Say b ∷ es) h fs header all few for t =
      let own = and_parts (is_still b) (list_all says_still es) all in
      goes_first h b (bodies k (length fs) es) (frames_with fs (sends k es)) ns (still_fits h b own.0)
      (plain_goes es (behind h b) fs header own.1 few for (nothing_tells h.start h.number h.lines fs ns b (still_nothing b own.0) t))
  plain_goes (Do w ∷ es) h fs header all few for t = plain_goes es h fs header all few for t
  plain_goes (Send to m ∷ es) h fs header all few for t =
      by (nat_lt (length fs) most_frames) refl (λ g gs same fit all_for told. plain_goes es g gs same all fit all_for told)
    where
      f : Frame
      f = new_frame k to (Some m)

      long : length (fs ++ f ∷ []) ≡ length fs + 1
      long = length-append fs (f ∷ [])

      fits_so : (j n : ℕ) → nat_lt j n ≡ true → nat_le (j + 1) n ≡ true
      fits_so j n less = grind (arith, nat_tests, less)

      over_so : (j n : ℕ) → nat_lt j n ≡ false → nat_le (j + 1) n ≡ false
      over_so j n less = grind (arith, nat_tests, less)

      less_so : (j n : ℕ) → nat_lt j n ≡ true → j < n
      less_so j n less = grind (arith, nat_tests, less)

      most_so : (j n : ℕ) → nat_lt j n ≡ false → n ≤ j
      most_so j n less = grind (arith, nat_tests, less)

      by : (b : Bool) → nat_lt (length fs) most_frames ≡ b →
          ((g : Here) (gs : List Frame) → g.header ≡ hd → length gs ≤ most_frames → AreFor hd (frames_with gs (sends k es)) → Telling g gs
          ns →
          Goes g (bodies k (length gs) es) (frames_with gs (sends k es)) ns) →
          Goes h (cond (nat_le (length fs + 1) most_frames) (body.Sent (length fs + 1) k to (frame_kind m) ∷ []) [] ++ bodies k
          (length fs + 1) es)
          (frames_with fs (sends k (Send to m ∷ es))) ns
      by true less rest =
          let more = frames_more fs (sends k es) f (less_so (length fs) most_frames less) in
          let few_now : length (fs ++ f ∷ []) ≤ most_frames = let l = less_so (length fs) most_frames less in omega (arith, l, long) in
          let for_now = subst (AreFor hd) more for in
          subst (λ x. Goes h (cond x (body.Sent (length fs + 1) k to (frame_kind m) ∷ []) [] ++ bodies k (length fs + 1) es)
          (frames_with fs (sends k (Send to m ∷ es))) ns) (sym (fits_so (length fs) most_frames less))
          (goes_first h (body.Sent (length fs + 1) k to (frame_kind m)) (bodies k (length fs + 1) es)
          (frames_with fs (sends k (Send to m ∷ es))) ns
          (sent_fits h fs to m header (for_last hd fs _ f for_now) t)
          (subst (λ gs. Goes (behind h (body.Sent (length fs + 1) k to (frame_kind m))) (bodies k (length fs + 1) es) gs ns) (sym more)
          (subst (λ j. Goes (behind h (body.Sent (length fs + 1) k to (frame_kind m))) (bodies k j es)
          (frames_with (fs ++ f ∷ []) (sends k es)) ns) long
          (rest (behind h (body.Sent (length fs + 1) k to (frame_kind m))) (fs ++ f ∷ []) header few_now for_now
          (send_tells h.start h.number h.lines fs ns k to (Some m) t)))))
      by false full rest =
          let over = most_so (length fs) most_frames full in
          subst (λ x. Goes h (cond x (body.Sent (length fs + 1) k to (frame_kind m) ∷ []) [] ++ bodies k (length fs + 1) es)
          (frames_with fs (sends k (Send to m ∷ es))) ns) (sym (over_so (length fs) most_frames full))
          (subst (λ gs. Goes h (bodies k (length fs + 1) es) gs ns) (sym (frames_full fs (sends k (Send to m ∷ es)) over))
          (full_goes k fs ns es (length fs + 1) h (omega (arith, over)) all t))

-- ---- a stop cuts effects

pub cut_still : (c : ℕ) (how : Stop) (es : List Effect) (d : Disk) → Still es → Still (cut c how es d).outs
cut_still c how [] d all = by c
  where
    by : (c : ℕ) → Still (cut c how [] d).outs
    by zero = refl
    by (suc c) = refl
cut_still zero how (Do w ∷ es) d all = refl
cut_still (suc c) how (Do w ∷ es) d all = cut_still c how es (worked w d) all
cut_still zero how (Say b ∷ es) d all = let own = and_parts (is_still b) (list_all says_still es) all in
    λ i. own.0 i && cut_still zero how es d own.1 i
cut_still (suc c) how (Say b ∷ es) d all = let own = and_parts (is_still b) (list_all says_still es) all in
    λ i. own.0 i && cut_still (suc c) how es d own.1 i
cut_still zero how (Send to m ∷ es) d all = cut_still zero how es d all
cut_still (suc c) how (Send to m ∷ es) d all = cut_still (suc c) how es d all

-- a line behind effects
pub bodies_said : (k j : ℕ) (es : List Effect) (b : Body) → bodies k j (es ++ Say b ∷ []) ≡ bodies k j es ++ b ∷ []
bodies_said k j [] b = refl
bodies_said k j (Say a ∷ es) b = ap (λ (bs : List Body). a ∷ bs) (bodies_said k j es b)
bodies_said k j (Do w ∷ es) b = bodies_said k j es b
bodies_said k j (Send to m ∷ es) b = ap (λ bs. sent_line (j + 1) k to (frame_kind m) ++ bs) (bodies_said k (j + 1) es b)
    ∙ sym (append_assoc (sent_line (j + 1) k to (frame_kind m)) (bodies k (j + 1) es) (b ∷ []))

pub sends_said : (k : ℕ) (es : List Effect) (b : Body) → sends k (es ++ Say b ∷ []) ≡ sends k es
sends_said k [] b = refl
sends_said k (Say a ∷ es) b = sends_said k es b
sends_said k (Do w ∷ es) b = sends_said k es b
sends_said k (Send to m ∷ es) b = ap (λ (fs : List Frame). new_frame k to (Some m) ∷ fs) (sends_said k es b)
