-- The lines of one event at each moment of it: those of a kind have their causes, where each handler says what has its cause.
use Rattle.arj_law_parts.proofs.Words
use Words.{⊤, ◌≡◌, ◌∙◌, ◌+◌, ◌==◌, ◌++◌, ◌&&◌, ◌||◌, not, ℕ, Bool, true, false, if◌then◌else◌, List, [], ◌∷◌, length, map, Option, Some}
use Words.{None}
use Words.{refl, sym, ap, subst, inl, inr, in_right, append-nil, append_assoc, map-append, and_parts, list_all, Body, Event, Header, Kind, Label, Line, Message}
use Words.{Start, Disk, Do, Effect, Say, Send, worked, Parts, Took, handle, is_meant, with_coord, again_all, begin_action, tick_outs}
use Words.{parent_of, parts_in, restart_outs, numbered, is_serial, Input, acts as does, refusal_up, begin_refusal, Post, frame_kind}
use Words.body
use Words.frame
use Words.input
use Words.list
use Rattle.arj_law_parts.proofs.moves.{Flat.post, Together.with_both}
use Rattle.arj_law_parts.specs.moves.Keeps.{AsksNode, MayGive, is_act, label_at}
use Rattle.arj_law_parts.specs.moves.Moments.{Asking, MayTake, Moment, asking_of, asks_now, at, fits, framed_if, given, halted, lined, posted, said, up}
use Rattle.arj_law_parts.specs.moves.Moments.{with_asking}
use Rattle.arj_law_parts.specs.moves.Seen.{AreQuiet, In, is_quiet_line}
use Rattle.arj_law_parts.specs.moves.With.{ArePlain, Brings, IsFirst, KeepsSteps, UpWith, WalksWith, is_plain_line}
use Rattle.arj_law_runs.proofs.follow.Walking.{behind_all}
use Rattle.arj_law_runs.specs.follow.Frames.{are_so}
use Rattle.arj_model.specs.CauseSpans.{Here, behind}
use Rattle.arj_model.specs.Caused.{has_cause}
use Rattle.arj_model.specs.Past.{Asked, Past, asked_of}
use Rattle.arj_model.specs.Refusals.{is_ask_by}
use Rattle.arj_law_cause.specs.kinds.Rows.{row, tested}

-- ---- lines behind one another

pub behind_lines : (h : Here) (bs : List Body) → behind_all h bs ≡ record h { lines = h.lines ++ numbered h.number bs }
behind_lines h [] = λ i. record h { lines = sym (append-nil h.lines) i }
behind_lines h (b ∷ bs) = behind_lines (behind h b) bs
    ∙ (λ i. record h { lines = append_assoc h.lines (record { event = h.number; body = b } ∷ []) (numbered h.number bs) i })

pub so_both : (f : Here → Body → Bool) (h : Here) (cs bs : List Body) → are_so f h cs ≡ true → are_so f (behind_all h cs) bs ≡ true →
    are_so f h (cs ++ bs) ≡ true
so_both f h [] bs first more = more
so_both f h (c ∷ cs) bs first more =
    let p = and_parts (f h c) (are_so f (behind h c) cs) first in λ i. p.0 i && so_both f (behind h c) cs bs p.1 more i

-- a line of another kind passes
pub others_pass : (test of : Here → Body → Bool) (h : Here) (b : Body) → of h b ≡ false → tested test of h b ≡ true
others_pass test of h b other = λ i. not (other i) || test h b

pub none_pass : (test of : Here → Body → Bool) (h : Here) (bs : List Body) → ((g : Here) → list_all (λ b. not (of g b)) bs ≡ true) →
    are_so (tested test of) h bs ≡ true
none_pass test of h [] none = refl
none_pass test of h (b ∷ bs) none =
    λ i. at h (of h b) refl i && none_pass test of (behind h b) bs (λ g. (and_parts (not (of g b)) (list_all (λ c. not (of g c)) bs)
    (none g)).1) i
  where
    at : (g : Here) (x : Bool) → of g b ≡ x → tested test of g b ≡ true
    at g false is = others_pass test of g b is
    at g true is =
        let no_way : not (of g b) ≡ true = (and_parts (not (of g b)) (list_all (λ c. not (of g c)) bs) (none g)).0 in
        absurd (cc (ap not (sym is) ∙ no_way))

-- none needs a cause
pub none_rows : (of : Here → Body → Bool) (h : Here) (bs : List Body) → ((g : Here) → list_all (λ b. not (of g b)) bs ≡ true) →
    are_so (row of) h bs ≡ true
none_rows = none_pass has_cause

pub other_row : (of : Here → Body → Bool) (h : Here) (b : Body) → of h b ≡ false → row of h b ≡ true
other_row = others_pass has_cause

-- what an effect says passes
abbrev pub says_so : (Body → Bool) → Effect → Bool
says_so ok (Say b) = ok b
says_so ok _ = true

module _ (test : Here → Body → Bool) (hd : Header) (of : Body → Bool) (quiet : (b : Body) → is_quiet_line b ≡ true → of b ≡ false)
    (halts : (k : ℕ) → of (body.Halted k) ≡ false) (st : Start) (q : Past) (e : Event) where
  -- lines of the kind, wherever they come
  abbrev pub kind : Here → Body → Bool
  kind h = of

  -- where the event's first line comes, and one behind these
  abbrev pub first_here : Here
  first_here = record {
    header = hd;
    start = st;
    accepted = q.accepted ++ asked_of q e ∷ [];
    event = e;
    number = q.count + 1;
    first = length q.lines;
    lines = q.lines;
  }

  abbrev pub here_behind : List Line → Here
  here_behind ls = record first_here { lines = ls }

  -- Each line of the kind that these effects say passes the test, behind these lines and those of the effects before it. A frame may make
  -- lines of its own.
  abbrev pub Well : List Effect → List Line → Type 0
  Well [] ls = ⊤
  Well (Do w ∷ es) ls = Well es ls
  Well (Say b ∷ es) ls = (tested test kind (here_behind ls) b ≡ true) × Well es (ls ++ numbered (q.count + 1) (b ∷ []))
  Well (Send to m ∷ es) ls = (more : List Body) → AreQuiet more → Well es (ls ++ numbered (q.count + 1) more)

  -- each call and each include that was asked is among the accepted events, or it is this one
  abbrev pub WereAccepted : List Asking → Type 0
  WereAccepted askings = (k : Asking) → list.In k askings → (l : List ℕ) → is_ask_by l (let a = k.asked in a.event) ≡ true →
      list.In {X = Asked} k.asked (q.accepted ++ asked_of q e ∷ [])

  -- a moment of the event: all lines behind the first ones are of it, and those of the kind pass the test
  pub record Inside (M : Moment) : Type 0 where
    pub event : M.past.event ≡ e
    pub run : M.past.run ≡ q
    pub number : M.past.number ≡ q.count + 1
    pub start : M.seen.start ≡ st
    pub wrote : List Body
    pub lines : M.seen.lines ≡ q.lines ++ numbered (q.count + 1) wrote
    pub fit : are_so (tested test kind) first_here wrote ≡ true
    pub asked : WereAccepted M.past.askings

  pub said_inside : (bs : List Body) (M : Moment) → are_so (tested test kind) (here_behind M.seen.lines) bs ≡ true → Inside M →
      Inside (said bs M)
  said_inside bs M fit h = record {
    event = h.event;
    run = h.run;
    number = h.number;
    start = h.start;
    wrote = h.wrote ++ bs;
    lines = (λ i. h.lines i ++ numbered (h.number i) bs)
        ∙ append_assoc q.lines (numbered (q.count + 1) h.wrote) (numbered (q.count + 1) bs)
        ∙ ap (λ ls. q.lines ++ ls) (sym (map-append (λ (b : Body). record { event = q.count + 1; body = b }) h.wrote bs));
    fit = so_both (tested test kind) first_here h.wrote bs h.fit
        (subst (λ g. are_so (tested test kind) g bs ≡ true)
        (sym (behind_lines first_here h.wrote ∙ (λ i. here_behind (sym h.lines i)))) fit);
    asked = h.asked;
  }

  pub same_inside : (M N : Moment) → N.past ≡ M.past → N.seen.start ≡ M.seen.start → N.seen.lines ≡ M.seen.lines → Inside M → Inside N
  same_inside M N past start lines h = record {
    event = (λ i. (let p = past i in p.event)) ∙ h.event;
    run = (λ i. (let p = past i in p.run)) ∙ h.run;
    number = (λ i. (let p = past i in p.number)) ∙ h.number;
    start = start ∙ h.start;
    wrote = h.wrote;
    lines = lines ∙ h.lines;
    fit = h.fit;
    asked = λ k there. h.asked k (subst (λ z. let p = z in list.In k p.askings) past there);
  }

  -- lines of another kind
  none_inside : (bs : List Body) (M : Moment) → list_all (λ b. not (of b)) bs ≡ true → Inside M → Inside (said bs M)
  none_inside bs M none h = said_inside bs M (none_pass test kind (here_behind M.seen.lines) bs (λ g. none)) h

  halted_inside : (k : ℕ) (d : Disk) (M : Moment) → Inside M → Inside (halted k d M)
  halted_inside k d M h = none_inside (body.Halted k ∷ []) (at k d None M) (λ i. not (halts k i) && true)
      (same_inside M (at k d None M) refl refl refl h)

  quiet_none : (bs : List Body) → AreQuiet bs → list_all (λ b. not (of b)) bs ≡ true
  quiet_none [] all = refl
  quiet_none (b ∷ bs) all =
      let p = and_parts (is_quiet_line b) (list_all is_quiet_line bs) all in λ i. not (quiet b p.0 i) && quiet_none bs p.1 i

  plain_quiet : (b : Body) → is_plain_line b ≡ true → is_quiet_line b ≡ true
  plain_quiet (body.Sent k from to what) is = refl
  plain_quiet b is = is

  plain_none : (bs : List Body) → ArePlain bs → list_all (λ b. not (of b)) bs ≡ true
  plain_none [] all = refl
  plain_none (b ∷ bs) all =
      let p = and_parts (is_plain_line b) (list_all is_plain_line bs) all in
      λ i. not (quiet b (plain_quiet b p.0) i) && plain_none bs p.1 i

  lined_inside : (from to : ℕ) (what : _) (M : Moment) → Inside M → Inside (lined from to what M)
  lined_inside from to what M h =
      let b : Body = body.Sent (M.past.frames + 1) from to what in
      let o = none_inside (b ∷ []) M (λ i. not (quiet b refl i) && true) h in
      record {
        event = o.event;
        run = o.run;
        number = o.number;
        start = o.start;
        wrote = o.wrote;
        lines = o.lines;
        fit = o.fit;
        asked = o.asked;
      }

  -- ---- a node's effects

  rest_walk : (k : ℕ) (v : Parts) (es : List Effect) (d : Disk) (M : Moment) (p : Post) → Inside M →
      ((more : List Body) → AreQuiet more → Well es (M.seen.lines ++ numbered (q.count + 1) more)) →
      ((N : Moment) → Inside N → Well es N.seen.lines → WalksWith Inside k es (UpWith Inside k v) d N) → (self fit : Bool) →
      WalksWith Inside k es (UpWith Inside k v) d (if self then posted p M else framed_if fit p M)
  rest_walk k v es d M p h more go true fit = go (posted p M) (same_inside M (posted p M) refl refl refl h)
      (subst (Well es) (append-nil M.seen.lines) (more [] refl))
  rest_walk k v es d M p h more go false true =
      let b : Body = body.Sent (M.past.frames + 1) p.from p.to (frame_kind p.message) in
      let L = lined p.from p.to (frame_kind p.message) M in
      go (posted p L) (same_inside L (posted p L) refl refl refl (lined_inside p.from p.to (frame_kind p.message) M h))
      (subst (λ n. Well es (M.seen.lines ++ numbered n (b ∷ []))) (sym h.number) (more (b ∷ []) refl))
  rest_walk k v es d M p h more go false false = go M h (subst (Well es) (append-nil M.seen.lines) (more [] refl))

  pub walk : (k : ℕ) (v : Parts) (outs : List Effect) (d : Disk) (M : Moment) → Inside M → Well outs M.seen.lines →
      WalksWith Inside k outs (UpWith Inside k v) d M
  walk k v [] d M h w = same_inside M (up k d v M) refl refl refl h
  walk k v (Do x ∷ es) d M h w = (λ how. halted_inside k _ M h, walk k v es (worked x d) M h w)
  walk k v (Say b ∷ es) d M h w =
      walk k v es d (said (b ∷ []) M) (said_inside (b ∷ []) M (λ i. w.0 i && true) h)
      (subst (λ n. Well es (M.seen.lines ++ numbered n (b ∷ []))) (sym h.number) w.1)
  walk k v (Send to m ∷ es) d M h w =
      rest_walk k v es d M (post k to m) h w (λ N i more. walk k v es d N i more) (to == k) (fits M)

  -- effects that say no line of the kind
  abbrev pub says_none : Effect → Bool
  says_none (Say b) = not (of b)
  says_none _ = true

  pub none_well : (es : List Effect) (ls : List Line) → list_all says_none es ≡ true → Well es ls
  none_well [] ls none = tt
  none_well (Do w ∷ es) ls none = none_well es ls none
  none_well (Say b ∷ es) ls none =
      let p = and_parts (not (of b)) (list_all says_none es) none in
      (by (of b) refl p.0, none_well es (ls ++ numbered (q.count + 1) (b ∷ [])) p.1)
    where
      by : (x : Bool) → of b ≡ x → not (of b) ≡ true → tested test kind (here_behind ls) b ≡ true
      by false is free = others_pass test kind (here_behind ls) b is
      by true is free = absurd (cc (ap not (sym is) ∙ free))
  none_well (Send to m ∷ es) ls none = λ more are. none_well es (ls ++ numbered (q.count + 1) more) none

  -- effects of which each line that passes another test passes this one too
  pub each_well : (ok : Body → Bool) → ((ls : List Line) (b : Body) → ok b ≡ true → tested test kind (here_behind ls) b ≡ true) →
      (es : List Effect) (ls : List Line) → list_all (says_so ok) es ≡ true → Well es ls
  each_well ok to [] ls all = tt
  each_well ok to (Do w ∷ es) ls all = each_well ok to es ls all
  each_well ok to (Say b ∷ es) ls all =
      let p = and_parts (ok b) (list_all (says_so ok) es) all in
      (to ls b p.0, each_well ok to es (ls ++ numbered (q.count + 1) (b ∷ [])) p.1)
  each_well ok to (Send to_node m ∷ es) ls all = λ more are. each_well ok to es (ls ++ numbered (q.count + 1) more) all

  -- ---- handlers

  -- Each handler says what passes the test, where so much is known.
  pub record SaysWell (G : Moment → Type 0) : Type 0 where
    pub message : (k : ℕ) (d : Disk) (t v : Parts) (from : ℕ) (m : Message) (outs : List Effect) (M : Moment) → G (up k d t M) → Inside M →
        In (record { from = from; to = k; message = m }) M.seen.sent → is_meant t m ≡ true → MayTake M.past.event m →
        handle k d t from m ≡ Took v outs → Well outs M.seen.lines
    pub act : (k : ℕ) (d : Disk) (t : Parts) (i : Input) (M : Moment) → is_act i ≡ true → Brings M.past.event i → IsFirst M →
        AsksNode hd i →
        refusal_up hd i t.coord ≡ None → G (up k d t M) → Inside M → Well (does i d.intents t.coord).outs M.seen.lines
    pub begin : (k : ℕ) (d : Disk) (t : Parts) (l : Label) (how : Kind) (parent : Option Label) (M : Moment) →
        Brings M.past.event (input.Begin l how parent) → IsFirst M → label_at l M.seen.labels ≡ None → MayGive M.seen.labels k how parent →
        begin_refusal how t.coord parent ≡ None → G (up k d t M) → Inside M →
        Well (begin_action l how parent (parent_of parent t.coord) t.coord).outs M.seen.lines
    pub tick : (k : ℕ) (d : Disk) (t : Parts) (M : Moment) → G (up k d t M) → Inside M →
        Well (tick_outs (record { number = k; disk = d; live = Some t }) t) M.seen.lines
    pub restart : (k : ℕ) (d : Disk) (M : Moment) → M.past.event ≡ Words.event.Restart k → IsFirst M → G (at k d None M) → Inside M →
        Well (restart_outs hd k (d.inc + 1) d) M.seen.lines

  pub inside_steps : (G : Moment → Type 0) → KeepsSteps hd G → SaysWell G → KeepsSteps hd (λ M. G M × Inside M)
  inside_steps G g s = record {
    quiet = λ bs M plain h. (g.quiet bs M plain h.0, none_inside bs M (plain_none bs plain) h.1);
    junk = λ n M fit h. (g.junk n M fit h.0, lined_inside 0 n frame.Junk M h.1);
    stop = λ k d live M h. (g.stop k d live M h.0, halted_inside k d M (same_inside (at k d live M) M refl refl refl h.1));
    message = λ k d t v from m outs M h there meant may is.
        let i = same_inside (up k d t M) M refl refl refl h.1 in
        with_both G Inside k outs (UpWith G k v) (UpWith Inside k v) d M (g.message k d t v from m outs M h.0 there meant may is)
        (walk k v outs d M i (s.message k d t v from m outs M h.0 i there meant may is));
    act = λ k d t i M is brings fresh asks free h.
        let did = does i d.intents t.coord in
        let v = with_coord t did.part in
        let I = same_inside (up k d t M) M refl refl refl h.1 in
        let N = asks_now i t.coord M in
        with_both G Inside k did.outs (UpWith G k v) (UpWith Inside k v) d N (g.act k d t i M is brings fresh asks free h.0)
        (walk k v did.outs d N (asks_inside i t M I) (s.act k d t i M is brings fresh asks free h.0 I));
    begin = λ k d t l how parent M brings fresh new gives none h.
        let did = begin_action l how parent (parent_of parent t.coord) t.coord in
        let v = with_coord t did.part in
        let I = same_inside (up k d t M) M refl refl refl h.1 in
        let N = given l (record { node = k; serial = is_serial how }) M in
        with_both G Inside k did.outs (UpWith G k v) (UpWith Inside k v) d N
        (g.begin k d t l how parent M brings fresh new gives none h.0)
        (walk k v did.outs d N (same_inside M N refl refl refl I) (s.begin k d t l how parent M brings fresh new gives none h.0 I));
    tick = λ k d t M h.
        let outs = tick_outs (record { number = k; disk = d; live = Some t }) t in
        let v = with_coord t (let r = again_all t.coord.doings t.coord in r.part) in
        let I = same_inside (up k d t M) M refl refl refl h.1 in
        with_both G Inside k outs (UpWith G k v) (UpWith Inside k v) d M (g.tick k d t M h.0) (walk k v outs d M I (s.tick k d t M h.0 I));
    restart = λ k d M event first h.
        let outs = restart_outs hd k (d.inc + 1) d in
        let v = parts_in k (d.inc + 1) d in
        let I = same_inside (at k d None M) M refl refl refl h.1 in
        with_both G Inside k outs (UpWith G k v) (UpWith Inside k v) d M (g.restart k d M event first h.0)
        (walk k v outs d M I (s.restart k d M event first h.0 I));
  }
    where
      asks_inside : (i : Input) (t : Parts) (M : Moment) → Inside M → Inside (asks_now i t.coord M)
      asks_inside i t M h = record {
        event = h.event;
        run = h.run;
        number = h.number;
        start = h.start;
        wrote = h.wrote;
        lines = h.lines;
        fit = h.fit;
        asked = asks_more i h.asked;
      }
        where
          -- what is asked now is this event
          one : (l : Label) → WereAccepted M.past.askings → WereAccepted (asking_of l t.coord M.past.run M.past.event ∷ M.past.askings)
          one l old k (inl same) m its =
              subst (λ (z : Asking). list.In {X = Asked} z.asked (q.accepted ++ asked_of q e ∷ [])) same
              (subst (λ (z : Asked). list.In {X = Asked} z (q.accepted ++ asked_of q e ∷ [])) (λ i. asked_of (sym h.run i) (sym h.event i))
              (in_right (asked_of q e) q.accepted (asked_of q e ∷ []) (inl refl)))
          one l old k (inr there) m its = old k there m its

          asks_more : (i : Input) → WereAccepted M.past.askings → WereAccepted (with_asking i t.coord M.past.run M.past.event M.past.askings)
          asks_more (input.Call l x o) old = one l old
          asks_more (input.Include l x n) old = one l old
          asks_more (input.Commit l) old = one l old
          asks_more (input.Begin l how p) old = old
          asks_more (input.Abort l) old = old
          asks_more (input.GiveUp l) old = old
          asks_more (input.Frame f from m) old = old
          asks_more input.Tick old = old
          asks_more input.Restart old = old
          asks_more input.Crash old = old
          asks_more (input.Show x) old = old
