-- A quiesce, and the stated round, leave every node idle: in every run.
use Rattle.arj_law_parts.proofs.Words
use Words.{◌≡◌, true, ◌∙◌, ◌++◌, ℕ, zero, suc, Bool, false, cond, List, [], ◌∷◌, Some, refl, sym, ap, subst, Body, Header, Line, Node}
use Words.{first_reason, is_idle, World, counted, is_quiet, limited, node_numbers, numbered, quiesce, quiet_line, reasons, run_event}
use Words.{run_unless, settle, tick_all, Move, all_moved, moved, world_by, Seen, AreQuiet, EndsQuiet, ◌&&◌, nat_le, slice_get, list_all}
use Words.{◌⊎◌, None, AllByRecursion, and_parts, lowest_from, AreGivenUp, AreUp, NobodyWaits}
use Words.body
use Words.event
use Rattle.arj_law_promise.proofs.Terms
use Terms.{IsGood, Holds, KeepsAsked, move_asked, moves_asked, AreAddressed, IsNode, kept, SettlesAll, over_before, asked_both, keeps_good}
use Terms.{KnowsPrepared}
use Rattle.arj_law_parts.proofs.moves.Moving.{moves_go_on}
use Rattle.arj_law_promise.proofs.settling.{Settled.handlers_settle, Waiting.AllKnown, Waiting.all_answer, Waiting.all_kept}
use Rattle.arj_law_runs.proofs.resting.{Fits.runs_few, GiveUps.over_front, GiveUps.round_settles, Quiets.move_settles}
use Rattle.arj_promise.specs.Resting.{IsGiveUp}
use Rattle.arj_promise.specs.Runs.{HeaderFits, Run}
use Rattle.arj_protocol.specs.World.{Asked, says}
use Rattle.arj_protocol.specs.Words.which

-- what holds where more is known
settles_less : (hd : Header) (P Q : Seen → Type 0) → ((M : Seen) → Q M → P M) → SettlesAll hd P → SettlesAll hd Q
settles_less hd P Q less s = record {
  within = λ M p q there. s.within M p (less M q) there;
  sorted = λ n d t M q. s.sorted n d t M (less _ q);
  records = λ n d t M u q is. s.records n d t M u (less _ q) is;
  naming = λ n d t M u q is. s.naming n d t M u (less _ q) is;
  awaited = λ n d t M u i q is. s.awaited n d t M u i (less _ q) is;
  prepared = λ n d t M k a u q found is home. s.prepared n d t M k a u (less _ q) found is home;
}

-- ---- the line

-- what a quiesce that went on says at its end
abbrev Said : World → Type 0
Said v = (before : List Line) × (v.lines ≡ before ++ numbered v.event (body.Quiet (is_quiet v) ∷ []))

line_said : (s : World) → (limited (quiet_line s)).over ≡ false → Said (limited (quiet_line s))
line_said s = by s.full refl
  where
    by : (b : Bool) → s.full ≡ b → (limited (cond b s (says (body.Quiet (is_quiet s) ∷ []) s))).over ≡ false →
        Said (limited (cond b s (says (body.Quiet (is_quiet s) ∷ []) s)))
    by true full over = let no_way : true ≡ false =
        (λ i. (cond (sym full i) (says (body.Limit which.Frames ∷ []) (record s { over = true })) s).over) ∙ over in absurd (cc no_way)
    by false full over = subst Said (λ i. cond (sym full i) (says (body.Limit which.Frames ∷ [])
        (record (says (body.Quiet (is_quiet s) ∷ []) s) { over = true })) (says (body.Quiet (is_quiet s) ∷ []) s)) (s.lines, refl)

pub quiesce_said : (e : Asked) (w : World) → e.event ≡ event.Quiesce → w.over ≡ false → (run_event e w).over ≡ false → Said (run_event e w)
quiesce_said e w is over last = subst Said (sym run_is)
    (line_said (settle (tick_all (node_numbers (counted w)) (settle (counted w)))) (ap (λ (v : World). v.over) (sym run_is) ∙ last))
  where
    run_is : run_event e w ≡ limited (quiesce (counted w))
    run_is = (λ i. cond (over i) w (run_unless e.event e.arm w (first_reason (reasons e.event w))))
        ∙ (λ i. run_unless (is i) e.arm w (first_reason (reasons (is i) w)))

-- each node of the world is one of the header
all_idle : (ns : List Node) → ((k : ℕ) (a : Node) → slice_get ns k ≡ Some a → is_idle a ≡ true) → list_all is_idle ns ≡ true
all_idle [] each = refl
all_idle (n ∷ ns) each = (λ i. each 0 n refl i && list_all is_idle ns) ∙ all_idle ns (λ k a is. each (suc k) a is)

world_idle : (hd : Header) (w : World) → Holds hd (AreAddressed hd) w → AreQuiet w → is_quiet w ≡ true
world_idle hd w h idle = all_idle w.nodes each
  where
    each : (k : ℕ) (a : Node) → slice_get w.nodes k ≡ Some a → is_idle a ≡ true
    each k a is =
        let all = h.holds in
        let so = all.1 in
        let node : IsNode hd a.number = (so.0 (suc k) a is).0 in
        let at_k : a.number ≡ suc k = h.stands.numbers (suc k) a is in
        idle (suc k) a ((λ i. nat_le 1 (sym at_k i) && nat_le (sym at_k i) (let x = h.stands.header i in x.nodes)) ∙ node) is

ends_quiet : (hd : Header) (m : Move) (w : World) → Holds hd (AreAddressed hd) (moved m w) → m.asked.event ≡ event.Quiesce →
    w.over ≡ false → (moved m w).over ≡ false → AreQuiet (moved m w) → EndsQuiet (moved m w)
ends_quiet hd m w h is over last idle = record {
  idle = idle;
  quiet = quiet;
  line = let s = quiesce_said m.asked (record w { arms = m.falls }) is over last in
      (s.0, s.1 ∙ (λ i. s.0 ++ numbered (let v = moved m w in v.event) (body.Quiet (quiet i) ∷ [])));
}
  where
    quiet : is_quiet (moved m w) ≡ true
    quiet = world_idle hd (moved m w) h idle

-- ---- what a line tells

-- the last line of a journal is one
last_is : (xs ys : List Line) (a b : Line) → xs ++ a ∷ [] ≡ ys ++ b ∷ [] → a ≡ b
last_is [] [] a b is = cc is
last_is [] (y ∷ []) a b is = absurd (cc is)
last_is [] (y ∷ z ∷ ys) a b is = absurd (cc is)
last_is (x ∷ []) [] a b is = absurd (cc is)
last_is (x ∷ z ∷ xs) [] a b is = absurd (cc is)
last_is (x ∷ xs) (y ∷ ys) a b is = last_is xs ys a b (cc is)

-- what a line says of it
abbrev tells : Body → Bool
tells (body.Quiet b) = b
tells b = true

same_quiet : (e n : ℕ) (b c : Bool) →
    ◌≡◌ {A = Line} (record { event = e; body = body.Quiet b }) (record { event = n; body = body.Quiet c }) → b ≡ c
same_quiet e n b c is = ap (λ (l : Line). tells l.body) is

each_idle : (ns : List Node) → list_all is_idle ns ≡ true → (k : ℕ) (a : Node) → slice_get ns k ≡ Some a → is_idle a ≡ true
each_idle [] all k a is = absurd (cc is)
each_idle (n ∷ ns) all zero a is = let same : n ≡ a = cc is in
    (λ i. is_idle (sym same i)) ∙ (and_parts (is_idle n) (list_all is_idle ns) all).0
each_idle (n ∷ ns) all (suc k) a is = each_idle ns (and_parts (is_idle n) (list_all is_idle ns) all).1 k a is

-- where the line of a quiesce says so, every node is idle
pub line_tells : (m : Move) (w : World) → m.asked.event ≡ event.Quiesce → w.over ≡ false → (moved m w).over ≡ false
    → (front : List Line) (n : ℕ) → (moved m w).lines ≡ front ++ record { event = n; body = body.Quiet true } ∷ [] → EndsQuiet (moved m w)
line_tells m w is over last front n line = record {
  idle = idle;
  quiet = quiet;
  line = (s.0, s.1 ∙ (λ i. s.0 ++ numbered (let v = moved m w in v.event) (body.Quiet (quiet i) ∷ [])));
}
  where
    s : Said (run_event m.asked (record w { arms = m.falls }))
    s = quiesce_said m.asked (record w { arms = m.falls }) is over last

    quiet : is_quiet (moved m w) ≡ true
    quiet = same_quiet (let v = moved m w in v.event) n (is_quiet (moved m w)) true
        (last_is s.0 front (record { event = (let v = moved m w in v.event); body = body.Quiet (is_quiet (moved m w)) })
        (record { event = n; body = body.Quiet true }) (sym s.1 ∙ line))

    idle : AreQuiet (moved m w)
    idle zero a node there = absurd (cc there)
    idle (suc k) a node there = each_idle (let v = moved m w in v.nodes) quiet k a there

-- ---- in every run

-- A quiesce that begins where nobody waits and no frame is open, at whose end every node is up, whatever stops fall, and in which no limit
-- is met, leaves every node idle, and its line says so.
pub quiesces_idle : (hd : Header) → HeaderFits hd → (r : Run hd) (m : Move) → let w = world_by hd r in
    lowest_from 1 w.frames ≡ None → NobodyWaits w
    → m.asked.event ≡ event.Quiesce → (moved m w).over ≡ false → AreUp (moved m w) → EndsQuiet (moved m w)
quiesces_idle hd form r m none nobody is last ups = ends_quiet hd m (world_by hd r)
    (move_asked hd (AreAddressed hd) (kept hd form) m (world_by hd r) (moves_asked hd (AreAddressed hd) (kept hd form) r)) is over last
    (move_settles hd (KnowsPrepared hd) s.0 (settles_less hd (KnowsPrepared hd) (λ M. KnowsPrepared hd M × IsGood M) (λ M q. q.0) s.1)
    m (world_by hd r) (moves_asked hd (λ M. KnowsPrepared hd M × IsGood M) (keeps_good hd (KnowsPrepared hd) s.0) r) (runs_few hd r)
    none nobody is over last ups)
  where
    over : (world_by hd r).over ≡ false
    over = over_before m (world_by hd r) last

    s : KeepsAsked hd (KnowsPrepared hd) × SettlesAll hd (KnowsPrepared hd)
    s = handlers_settle hd form

-- So does the stated round: a quiesce, giveups of each action that waits then, and a second quiesce, where every node is up at the end of
-- both, whatever stops fall, and no limit is met (or any giveups behind which nobody waits).
pub rounds_idle : (hd : Header) → HeaderFits hd
    → (r : Run hd) (gs : List Move) (m n : Move) → let u = world_by hd r in let v = moved m u in let w = all_moved gs v in
    m.asked.event ≡ event.Quiesce → AllByRecursion IsGiveUp gs → n.asked.event ≡ event.Quiesce
    → AreUp v → AreGivenUp gs v ⊎ NobodyWaits w → (moved n w).over ≡ false → AreUp (moved n w) → EndsQuiet (moved n w)
rounds_idle hd form r gs m n is all last ups nobody over_n ups_n =
    ends_quiet hd n (all_moved gs (moved m (world_by hd r))) addressed last over_w over_n
    (round_settles hd (λ M. KnowsPrepared hd M × AllKnown hd M) (asked_both hd (KnowsPrepared hd) (AllKnown hd) s.0 (all_kept hd form))
    (all_answer hd form (λ M. (KnowsPrepared hd M × AllKnown hd M) × IsGood M) (λ M q. q.0.1))
    (settles_less hd (KnowsPrepared hd) (λ M. (KnowsPrepared hd M × AllKnown hd M) × IsGood M) (λ M q. q.0.0) s.1) r gs m n is all last
    over went ups over_w nobody over_n ups_n)
  where
    over_w : (all_moved gs (moved m (world_by hd r))).over ≡ false
    over_w = over_before n (all_moved gs (moved m (world_by hd r))) over_n

    went : (moved m (world_by hd r)).over ≡ false
    went = over_front gs (moved m (world_by hd r)) over_w

    over : (world_by hd r).over ≡ false
    over = over_before m (world_by hd r) went

    keeps : KeepsAsked hd (AreAddressed hd)
    keeps = kept hd form

    addressed : Holds hd (AreAddressed hd) (moved n (all_moved gs (moved m (world_by hd r))))
    addressed = move_asked hd (AreAddressed hd) keeps n (all_moved gs (moved m (world_by hd r))) (moves_go_on hd (AreAddressed hd) keeps gs
        (moved m (world_by hd r)) (move_asked hd (AreAddressed hd) keeps m (world_by hd r) (moves_asked hd (AreAddressed hd) keeps r)))

    s : KeepsAsked hd (KnowsPrepared hd) × SettlesAll hd (KnowsPrepared hd)
    s = handlers_settle hd form
