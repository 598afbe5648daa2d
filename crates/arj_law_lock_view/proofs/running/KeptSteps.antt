-- The object is seen in every world of a run: each handler's walk is put together, and each stop is seen.
use Rattle.arj_law_parts.proofs.Words
use Words.{Start, ◌≡◌, ◌≢◌, ◌∙◌, ◌+◌, ℕ, List, [], ◌∷◌, not, Bool, true, false, Option, Some, None, refl, ap, subst, inr, sym, inl, is_some}
use Words.{and_parts, in_from, in_to, Asked, Header, Kind, Label, Message, Path, Uid, asks, uids_of, Reply, actor, answers, response}
use Words.{again_all, begin_action, heard, Coord, Disk, Do, Effect, Say, Send, Served, worked, acked, answer_query, tick_outs, Parts, Took}
use Words.{answer_is_meant, asked_is_meant, by_reply, coord_heard, handle, is_meant, with_coord, Input, acts, begin_reasons, begin_refusal}
use Words.{refused_by, parent_of, parts_in, refusal_up, restart_outs, Branch, branch_of, is_open, is_open_branch, next_uid, path_below}
use Words.{Post, Seen, is_serial}
use Words.message
use Words.input
use Rattle.arj_law_lock_view.proofs.Terms
use Terms.{IsAtStarts, Marks, Run, stay, State, Action, MayBegin, IsGoodCoord, MayStand, named_found, off, is_act, AreQuiet, Within, at}
use Terms.{down, given, posted}
use Terms.{said, up, Up, Walks, halted, walks_both, walks_to, KeepsOf, begins_in, Case, IsSeenIn, Spot, world_at, coord_at, Fixed}
use Terms.{SeesLocks, AreTied, AreVotedAt, IsSeenSo, is_for_parts, AreVoted}
use Rattle.arj_law_lock_view.proofs.facts.VoteCoords.{acts_are_voted, heard_is_voted, others_are_voted}
use Rattle.arj_law_lock_view.proofs.running
use running.{AckSteps.acks_go, AnswerGoes.answers_go, BeginGoes.begins_go, FirstSteps.first_goes, GoodSteps.good_node}
use running.{HandleSteps.messages_go, InputGoes.inputs_go, LeftSteps.Leaves, LeftSteps.message_left, OtherSteps.node_here}
use running.{QuerySteps.queries_go, RestartWalks.restarts_go, TickSteps.ticks_go}
use running.LineSteps.{down_stays, lines_stay, quiets_stay, stops_go}
use running.VoteSteps.{HaveVotes, IsOldOrNew, first_votes, had_votes, halted_votes, new_votes, nodes_walk, voted_at, votes_shown}
use Rattle.arj_law_lock_view.specs.running.{Fixed.Agrees, Fixed.AgreesBy, Kept.AreCoordsNamed, Kept.GivesLocks, Kept.HasCome, Kept.case_of}
use Rattle.arj_law_parts.proofs.{moves.Together.walks_each, parts.CoordInputs.IsNext, parts.CoordInputs.next_path}
use Rattle.arj_law_parts.specs.moves.{Keeps.MayGive, Keeps.label_at, Seen.In}
use Rattle.arj_law_runs.proofs.journal
use journal.Paths.{IsPathedOf, act_pathed, begin_pathed, first_pathed, message_pathed, quiet_pathed, restart_pathed, stop_pathed}
use journal.Paths.{tick_pathed}
use Rattle.arj_law_runs.specs.{calls.Runs.AllVotesAreUsed, journal.Paths.IsAlikeOf}
use Rattle.arj_law_runs.proofs.kept.Begins as begins

-- ---- more is sent along a walk

module _ (L : Seen) (e k : ℕ) (v : Parts) where
  -- and the start stays
  abbrev Has : Seen → Type 0
  Has N = Within L.sent N.sent × (N.start ≡ L.start)

  sent_grows : (outs : List Effect) (d : Disk) (M : Seen) → Has M → Walks Has e k outs (Up Has k v) d M
  sent_grows [] d M has = has
  sent_grows (Do w ∷ es) d M has = (λ how. has, sent_grows es (worked w d) M has)
  sent_grows (Say b ∷ es) d M has = sent_grows es d (said e (b ∷ []) M) has
  sent_grows (Send to m ∷ es) d M has = λ more quiet.
      sent_grows es d (said e more (posted (record { from = k; to = to; message = m }) M)) ((λ p there. inr (has.0 p there)), has.1)

-- ---- what agrees with more agrees with less

module _ (f : Fixed) (x : ℕ) where
  agree_less : (begun : List Action) (sent more : List Post) → Within sent more → Agrees f x begun more → Agrees f x begun sent
  agree_less begun sent more within a = record { whole = a.whole; wanted = λ p h q there is. a.wanted p h q (within p there) is }

  pub agree_older : (a : Action) (begun : List Action) (sent : List Post) → Agrees f x (a ∷ begun) sent → Agrees f x begun sent
  agree_older a begun sent g = record {
    whole = (let w = g.whole in record {
      tree = w.tree;
      alike = w.alike;
      begun = w.begun.1;
      agree = λ b there. w.agree b (in_to b (a ∷ begun) (inr (in_from b begun there)));
      placed = λ b there. w.placed b (in_to b (a ∷ begun) (inr (in_from b begun there)));
    });
    wanted = λ p h q there is. g.wanted p h q there is;
  }

-- so it is with what else is asked of it
pub as_less : (Apt : Fixed → Type 0) (f : Fixed) (x : ℕ) (begun : List Action) (sent more : List Post) → Within sent more →
    AgreesBy Apt f x begun more → AgreesBy Apt f x begun sent
as_less Apt f x begun sent more within a = (agree_less f x begun sent more within a.0, a.1)

pub as_older : (Apt : Fixed → Type 0) (f : Fixed) (x : ℕ) (a : Action) (begun : List Action) (sent : List Post) →
    AgreesBy Apt f x (a ∷ begun) sent → AgreesBy Apt f x begun sent
as_older Apt f x a begun sent g = (agree_older f x a begun sent g.0, g.1)

-- the object is seen, and on a condition commits have their votes
abbrev pub LocksSo : (Marks → Fixed → Type 0) → Type 0 → ℕ → (List Action → Seen → Type 0) → Seen → Type 0
LocksSo Apt U x R M = (begun : List Action) × IsAlikeOf begun M × R begun M × ((f : Fixed) → AgreesBy (Apt M.start.marks) f x begun M.sent →
    (S : State) × SeesLocks f x begun S M × AreTied f x M.lines S × (U → AreVotedAt f x S M)) × AreCoordsNamed M

-- And the machine has gone there from these states, for all that was fixed and agreed with what was seen then.
abbrev pub LocksFrom : (Apt : Marks → Fixed → Type 0) → Type 0 → (x : ℕ) → (List Action → Seen → Type 0) → (begun : List Action) →
    (M : Seen) → ((f : Fixed) → AgreesBy (Apt M.start.marks) f x begun M.sent → State) → Seen → Type 0
LocksFrom Apt U x R begun M from N = IsAlikeOf begun N × R begun N × ((f : Fixed) → AgreesBy (Apt N.start.marks) f x begun N.sent →
    (S : State) × SeesLocks f x begun S N × AreTied f x N.lines S × (U → AreVotedAt f x S N)
    × ((a : AgreesBy (Apt M.start.marks) f x begun M.sent) × Run (from f a) S)) × AreCoordsNamed N

-- a walk in which the object is seen, for all that may be fixed and agrees with what was done before
kept_walk : (Apt : Marks → Fixed → Type 0) (V : Type 0) (x : ℕ) (R : List Action → Seen → Type 0) (begun : List Action) (e k : ℕ)
    (outs : List Effect) (v : Parts) (d : Disk) (M : Seen) (from : (f : Fixed) → AgreesBy (Apt M.start.marks) f x begun M.sent → State) →
    Walks (R begun) e k outs (Up (R begun) k v) d M → Walks (IsPathedOf begun) e k outs (Up (IsPathedOf begun) k v) d M
    → ((f : Fixed) (a : AgreesBy (Apt M.start.marks) f x begun M.sent) → Walks (IsSeenSo (case_of f x begun (from f a))) e k outs
    (Up (IsSeenSo (case_of f x begun (from f a))) k v) d M × ((T : State) → Run (from f a) T → V → HaveVotes f x M k v.coord T))
    → Walks (LocksFrom Apt V x R begun M from) e k outs (Up (LocksFrom Apt V x R begun M from) k v) d M
kept_walk Apt V x R begun e k outs v d M from holds good sees =
    let A : Type 0 = (f : Fixed) × AgreesBy (Apt M.start.marks) f x begun M.sent in
    let Q : A → Seen → Type 0 = λ a N. Agrees a.0 x begun N.sent →
    (S : State) × SeesLocks a.0 x begun S N × AreTied a.0 x N.lines S × Run (from a.0 a.1) S in
    let H : Seen → Type 0 = λ N. Within M.sent N.sent × (N.start ≡ M.start) in
    let E : Seen → Type 0 = λ N. (a : A) → Q a N in
    let one = walks_each {A = A} Q e k outs (λ a. Up (Q a) k v) d M (λ a. (sees a.0 a.1).0) in
    let two = walks_both H E e k outs (Up H k v) (λ c N. (a : A) →
    Up (Q a) k v c N) d M (sent_grows M e k v outs d M ((λ p there. there), refl)) one in
    let G : Seen → Type 0 = IsPathedOf begun in
    let T : Seen → Type 0 = λ N. H N × E N in
    let three = walks_both G T e k outs (Up G k v) (λ c N. Up H k v c N × ((a : A) → Up (Q a) k v c N)) d M good two in
    let U : Seen → Type 0 = λ N. G N × T N in
    let four = walks_both (R begun) U e k outs (Up (R begun) k v) (λ c N. Up G k v c N × (Up H k v c N × ((a : A) → Up (Q a) k v c N))) d M
    holds three in
    let O : Seen → Type 0 = IsOldOrNew M k v in
    let W : Seen → Type 0 = λ N. R begun N × U N in
    let five = walks_both O W e k outs (Up O k v) (λ c N. Up (R begun) k v c N
    × (Up G k v c N × (Up H k v c N × ((a : A) → Up (Q a) k v c N)))) d M (nodes_walk M k v e outs d M (λ j. refl)) four in
    walks_to (λ N. O N × W N) (LocksFrom Apt V x R begun M from) e k outs (λ c N. Up O k v c N × (Up (R begun) k v c N
    × (Up G k v c N × (Up H k v c N × ((a : A) → Up (Q a) k v c N))))) (Up (LocksFrom Apt V x R begun M from) k v) d M
    (λ N w. locked N w.0 w.1)
    (λ c N w. locked (up k c v N) w.0 w.1) five
  where
    locked : (N : Seen) → IsOldOrNew M k v N → R begun N × (IsPathedOf begun N
        × ((Within M.sent N.sent × (N.start ≡ M.start)) × ((a : (f : Fixed) × AgreesBy (Apt M.start.marks) f x begun M.sent) →
        Agrees a.0 x begun N.sent → (S : State)
        × SeesLocks a.0 x begun S N × AreTied a.0 x N.lines S × Run (from a.0 a.1) S))) → LocksFrom Apt V x R begun M from N
    locked N nodes z = (
      z.1.0.1,
      z.0,
      (λ f agrees.
          let before = as_less (Apt M.start.marks) f x begun M.sent N.sent z.1.1.0.0
          (agrees.0, subst (λ (s : Start). Apt s.marks f) z.1.1.0.1 agrees.1) in
          let g = z.1.1.1 (f, before) agrees.0 in
          (g.0, g.1, g.2, (λ u. voted_at f x M k v N g.0 nodes ((sees f before).1 g.0 g.3 u)), (before, g.3))),
      z.1.0.0.1,
    )

some_is : {A : Type 0} {a b : A} → Some a ≡ Some b → a ≡ b
some_is {A} {a} {b} is = let k : ◌≡◌ {A = Option A} (Some a) (Some b) = is in cc

-- ---- what a message is

-- acknowledged, or asked about
abbrev pub coordinated : Message → Option (Uid × Bool)
coordinated (message.Acked m) = Some (m.act, true)
coordinated (message.Query m) = Some (m.act, false)
coordinated m = None

-- what it has
abbrev act_or : Uid → Option (Uid × Bool) → Uid
act_or u None = u
act_or u (Some p) = p.0

abbrev flag : Option (Uid × Bool) → Bool
flag None = false
flag (Some p) = p.1

pub is_answer : (m : Message) → coordinated m ≡ None → is_for_parts m ≡ false → is_some (answers m) ≡ true
is_answer (message.Acked m) none is = absurd (cc none)
is_answer (message.Query m) none is = absurd (cc none)
is_answer m none is = un (is_some (answers m)) is
  where
    un : (b : Bool) → not b ≡ false → b ≡ true
    un true h = refl
    un false h = absurd (cc h)

pub is_acked : (m : Message) (u : Uid) → coordinated m ≡ Some (u, true) → m ≡ message.Acked (record { act = u })
is_acked (message.Acked m) u is = let same : m.act ≡ u = ap (act_or m.act) is in ap (λ (w : Uid). message.Acked (record { act = w })) same
is_acked (message.Query m) u is = absurd (let bad : false ≡ true = ap flag is in cc bad)
is_acked m u is = absurd (cc is)

pub is_query : (m : Message) (u : Uid) → coordinated m ≡ Some (u, false) → m ≡ message.Query (record { act = u })
is_query (message.Acked m) u is = absurd (let bad : true ≡ false = ap flag is in cc bad)
is_query (message.Query m) u is = let same : m.act ≡ u = ap (act_or m.act) is in ap (λ (w : Uid). message.Query (record { act = w })) same
is_query m u is = absurd (cc is)

pub took_heard : (t v : Parts) (r : Served Coord (Unit {0})) (outs : List Effect) → coord_heard t r ≡ Took v outs →
    (with_coord t r.part ≡ v) × (r.outs ≡ outs)
took_heard t v r outs is = by r.reply is
  where
    by : (o : Option (Unit {0})) → by_reply (with_coord t r.part) r.outs o ≡ Took v outs → (with_coord t r.part ≡ v) × (r.outs ≡ outs)
    by None is = absurd (cc is)
    by (Some u) is = (cc is, cc is)

-- ---- what an answer is

-- it is its message
pub response_is : (m : Message) (a : Asked × Reply) → answers m ≡ Some a → m ≡ response a.0 a.1
response_is (message.Bound m) a is = ap (λ (z : Asked × Reply). response z.0 z.1) (some_is is)
response_is (message.Loaded m) a is = ap (λ (z : Asked × Reply). response z.0 z.1) (some_is is)
response_is (message.Activated m) a is = ap (λ (z : Asked × Reply). response z.0 z.1) (some_is is)
response_is (message.Recorded m) a is = ap (λ (z : Asked × Reply). response z.0 z.1) (some_is is)
response_is (message.Invoked m) a is = ap (λ (z : Asked × Reply). response z.0 z.1) (some_is is)
response_is (message.Voted m) a is = ap (λ (z : Asked × Reply). response z.0 z.1) (some_is is)
response_is (message.Prepared m) a is = ap (λ (z : Asked × Reply). response z.0 z.1) (some_is is)
response_is (message.Confirmed m) a is = ap (λ (z : Asked × Reply). response z.0 z.1) (some_is is)
response_is (message.Bind m) a is = absurd (cc is)
response_is (message.Load m) a is = absurd (cc is)
response_is (message.Activate m) a is = absurd (cc is)
response_is (message.RecordMsg m) a is = absurd (cc is)
response_is (message.Invoke m) a is = absurd (cc is)
response_is (message.Vote m) a is = absurd (cc is)
response_is (message.Prepare m) a is = absurd (cc is)
response_is (message.Confirm m) a is = absurd (cc is)
response_is (message.Told m) a is = absurd (cc is)
response_is (message.Acked m) a is = absurd (cc is)
response_is (message.Query m) a is = absurd (cc is)
response_is (message.Hello m) a is = absurd (cc is)

-- the coordinator takes it
pub handled_answer : (k : ℕ) (d : Disk) (t : Parts) (from : ℕ) (a : Asked) (r : Reply) →
    handle k d t from (response a r) ≡ coord_heard t (heard from a r d.intents t.coord)
handled_answer k d t from a (Reply.Bound r) = refl
handled_answer k d t from a (Reply.Loaded r) = refl
handled_answer k d t from a (Reply.Activated r) = refl
handled_answer k d t from a (Reply.Noted r) = refl
handled_answer k d t from a (Reply.Invoked r) = refl
handled_answer k d t from a (Reply.Voted r) = refl
handled_answer k d t from a (Reply.Prepared r) = refl
handled_answer k d t from a (Reply.Confirmed r) = refl

-- an input about an action begins none
not_begin : (i : Input) → is_act i ≡ true → (l : Label) (k : Kind) (parent : Option Label) → i ≢ input.Begin l k parent
not_begin i act l k parent same = let bad : true ≡ false = sym act ∙ ap is_act same in cc bad

-- ---- each handler

module _ (hd : Header) (Apt : Marks → Fixed → Type 0) (x : ℕ) (G : Seen → Type 0) (R : List Action → Seen → Type 0) (Y : Fixed →
    List Action →
    State → Seen → Type 0) (keeps : KeepsOf hd (λ begun M. G M) R) (gives : (marks : Marks) (f : Fixed) → Apt marks f →
    GivesLocks hd f x (λ begun S M. (G M × R begun M) × Y f begun S M))
    (V : Type 0) (used : (M : Seen) → G M → V → AllVotesAreUsed M) where
  abbrev Kept : Seen → Type 0
  Kept N = LocksSo Apt V x R N

  -- what is seen from this state of each machine on
  abbrev pub From : (M : Seen) → Kept M → Seen → Type 0
  From M z N = LocksFrom Apt V x R z.0 M (λ f a. let g = z.3 f a in g.0) N

  -- in each state in which it is seen more is known
  abbrev pub Knows : (M : Seen) → Kept M → Type 0
  Knows M z = (f : Fixed) (a : AgreesBy (Apt M.start.marks) f x z.0 M.sent) → Y f z.0 (let g = z.3 f a in g.0) M

  -- what is seen, where what is fixed agrees
  seen_in : (f : Fixed) (M : Seen) (z : Kept M) (agrees : AgreesBy (Apt M.start.marks) f x z.0 M.sent) →
      IsSeenIn (case_of f x z.0 (let g = z.3 f agrees in g.0)) M
  seen_in f M z agrees = record {
    good = z.1.0;
    alike = z.1.1;
    written = z.1.2;
    agrees = agrees.0;
    sees = (let g = z.3 f agrees in g.1);
    tied = (let g = z.3 f agrees in g.2);
  }

  -- its actions are those of the journal
  pathed_in : (M : Seen) (z : Kept M) → IsPathedOf z.0 M
  pathed_in M z = (((z.0, z.1.0), z.4), z.1)

  pub quiet_kept : (e : ℕ) (bs : List _) (M : Seen) → AreQuiet bs → G M → (z : Kept M) → From M z (said e bs M)
  quiet_kept e bs M quiet more z =
      let r = quiet_pathed hd z.0 e bs M quiet (pathed_in M z) in (
        r.1,
        keeps.quiet z.0 e bs M quiet more z.1.0 z.2,
        (λ f agrees. (let g = z.3 f agrees in (
          g.0,
          lines_stay (case_of f x z.0 g.0) e bs M g.1,
          quiets_stay (case_of f x z.0 g.0) e bs M quiet (seen_in f M z agrees),
          g.3,
          (agrees, stay),
        ))),
        r.0.1,
      )

  pub stop_kept : (e k : ℕ) (d : Disk) (live : Option Parts) (M : Seen) → G (at k d live M) → (z : Kept (at k d live M)) →
      Knows (at k d live M) z → From (at k d live M) z (halted e k d M)
  stop_kept e k d live M more z more_known = let r = stop_pathed hd z.0 e k d live M (pathed_in (at k d live M) z) in
      (r.1, keeps.stop z.0 e k d live M more z.1.0 z.2, (λ f. by f live more z more_known), r.0.1)
    where
      by : (f : Fixed) (live : Option Parts) → G (at k d live M) → (z : Kept (at k d live M)) → Knows (at k d live M) z →
          AgreesBy (Apt M.start.marks) f x z.0 M.sent → (S : State) × SeesLocks f x z.0 S (halted e k d M)
          × AreTied f x (let N = halted e k d M in
          N.lines) S × (V → AreVotedAt f x S (halted e k d M)) × ((a : AgreesBy (Apt M.start.marks) f x z.0 M.sent)
          × Run (let g = z.3 f a in g.0) S)
      by f None more z more_known agrees = (let g = z.3 f agrees in let h = down_stays (case_of f x z.0 g.0) e k d M (seen_in f
          (down k d M) z agrees) agrees.0 in (h.0, h.1, h.2, (λ u. halted_votes f x e k d None M g.0 h.0 h.3 (g.3 u)), (agrees, h.3)))
      by f (Some t) more z more_known agrees =
          let g = z.3 f agrees in
          let s : Spot = record { node = k; disk = d; parts = t; seen = M } in
          let seen = seen_in f (world_at s) z agrees in
          let h = stops_go (case_of f x z.0 g.0) s e seen ((gives M.start.marks f agrees.1).holds z.0 g.0 s
          ((more, z.2), more_known f agrees) seen)
          agrees.0 in
          (h.0, h.1, h.2, (λ u. halted_votes f x e k d (Some t) M g.0 h.0 h.3 (g.3 u)), (agrees, h.3))

  -- ---- a message

  module _ (f : Fixed) (e : ℕ) (s : Spot) (from : ℕ) (more : G (world_at s)) (z : Kept (world_at s))
      (agrees : AgreesBy (Apt (let M = s.seen in M.start.marks)) f x z.0 (let M = s.seen in M.sent))
      (known : Y f z.0 (let g = z.3 f agrees in g.0) (world_at s)) where
    abbrev begun : List Action
    begun = z.0

    abbrev S : State
    S = let g = z.3 f agrees in g.0

    abbrev c : Case
    c = case_of f x begun S

    abbrev Goes : List Effect → Parts → Type 0
    Goes outs v = Walks (IsSeenSo c) e s.node outs (Up (IsSeenSo c) s.node v) s.disk s.seen

    seen : IsSeenIn c (world_at s)
    seen = seen_in f (world_at s) z agrees

    its : GivesLocks hd f x (λ begun S M. (G M × R begun M) × Y f begun S M)
    its = gives (let M = s.seen in M.start.marks) f agrees.1

    coordinator_goes : (m : Message) (v : Parts) (outs : List Effect) → HasCome s from m v outs → is_for_parts m ≡ false →
        (o : Option (Uid × Bool)) → coordinated m ≡ o → Goes outs v
    coordinator_goes m v outs come is None none = hears (answers m) refl (is_answer m none is)
      where
        hears : (o : Option (Asked × Reply)) → answers m ≡ o → is_some o ≡ true → Goes outs v
        hears None of some = absurd (cc some)
        hears (Some a) of some =
            let n = subst (λ (w : Message). HasCome s from w v outs) (response_is m a of) come in
            let r = heard from a.0 a.1 (let d = s.disk in d.intents) (coord_at s) in
            let q = took_heard s.parts v r outs (sym (handled_answer s.node s.disk s.parts from a.0 a.1) ∙ n.takes) in
            let meant = ap (answer_is_meant (coord_at s)) (sym of) ∙ (and_parts (asked_is_meant (let t = s.parts in t.server) (asks m))
            (answer_is_meant (coord_at s) (answers m)) come.meant).1 in
            subst (λ (w : Parts). Goes outs w) q.0 (subst (λ (es : List Effect). Goes es (with_coord s.parts r.part)) q.1
            (answers_go c s e from a.0 a.1 seen (its.holds begun S s ((more, z.2), known) seen)
            (its.heard begun S s from m a v outs ((more, z.2), known) seen come of) n.sent meant))
    coordinator_goes m v outs come is (Some (u, true)) of =
        let n = subst (λ (w : Message). HasCome s from w v outs) (is_acked m u of) come in
        let r = acked from u (let d = s.disk in d.intents) (coord_at s) in
        let q = took_heard s.parts v r outs n.takes in
        subst (λ (w : Parts). Goes outs w) q.0 (subst (λ (es : List Effect). Goes es (with_coord s.parts r.part)) q.1 (acks_go c s e from u
        seen (its.holds begun S s ((more, z.2), known) seen) (its.acked begun S s from u v outs ((more, z.2), known) seen n)))
    coordinator_goes m v outs come is (Some (u, false)) of =
        let n = subst (λ (w : Message). HasCome s from w v outs) (is_query m u of) come in
        let taken : Took s.parts (answer_query from u (let d = s.disk in d.intents) (coord_at s)) ≡ Took v outs = n.takes in
        let same : s.parts ≡ v = cc taken in
        let sends : answer_query from u (let d = s.disk in d.intents) (coord_at s) ≡ outs = cc taken in
        subst (λ (w : Parts). Goes outs w) same (subst (λ (es : List Effect). Goes es s.parts) sends
        (queries_go c s e from u seen (its.asked begun S s from u v outs ((more, z.2), known) seen n)))

    pub message_goes : (m : Message) (v : Parts) (outs : List Effect) → HasCome s from m v outs → Goes outs v
    message_goes m v outs come = by (is_for_parts m) refl
      where
        by : (b : Bool) → is_for_parts m ≡ b → Goes outs v
        by true is = (let q = its.parts begun S s from m v outs ((more, z.2), known) seen come is in
            messages_go c s e from m v outs seen q.0 q.1 come.sent is come.meant come.takes)
        by false is = coordinator_goes m v outs come is (coordinated m) refl

    -- votes behind it
    pub message_votes : (m : Message) (v : Parts) (outs : List Effect) → HasCome s from m v outs → (T : State) → Run S T → V →
        HaveVotes f x s.seen s.node v.coord T
    message_votes m v outs come T run u = (had.0, by (is_for_parts m) refl)
      where
        had : HaveVotes f x s.seen s.node (coord_at s) T
        had = had_votes f x s.node s.disk s.parts s.seen S T run ((let g = z.3 f agrees in g.3) u)

        coordinator : (o : Option (Uid × Bool)) → coordinated m ≡ o → is_for_parts m ≡ false → AreVoted f.act f.code x v.coord T
        coordinator None none off = hears (answers m) refl (is_answer m none off)
          where
            hears : (o : Option (Asked × Reply)) → answers m ≡ o → is_some o ≡ true → AreVoted f.act f.code x v.coord T
            hears None of some = absurd (cc some)
            hears (Some a) of some =
                let n = subst (λ (w : Message). HasCome s from w v outs) (response_is m a of) come in
                let r = heard from a.0 a.1 (let d = s.disk in d.intents) (coord_at s) in
                let q = took_heard s.parts v r outs (sym (handled_answer s.node s.disk s.parts from a.0 a.1) ∙ n.takes) in
                subst (λ (w : Parts). AreVoted f.act f.code x w.coord T) q.0
                (heard_is_voted f.act f.code x from a.0 a.1 (let d = s.disk in d.intents) (coord_at s) T
                (λ d k found is waits. votes_shown c s e from a.0 a.1 seen (its.holds begun S s ((more, z.2), known) seen)
                (its.heard begun S s from m a v outs ((more, z.2), known) seen come of) n.sent
                (used (world_at s) more u s.node (record { number = s.node; disk = s.disk; live = Some s.parts }) s.parts
                (node_here f x [] s.node s.disk (Some s.parts) s.seen) refl) T run d found k is waits)
                had.1)
        coordinator (Some (w, true)) of off =
            let n = subst (λ (y : Message). HasCome s from y v outs) (is_acked m w of) come in
            let q = took_heard s.parts v (acked from w (let d = s.disk in d.intents) (coord_at s)) outs n.takes in
            subst (λ (y : Parts). AreVoted f.act f.code x y.coord T) q.0
            ((others_are_voted f.act f.code x (coord_at s) T had.1).1 from w (let d = s.disk in d.intents))
        coordinator (Some (w, false)) of off =
            let n = subst (λ (y : Message). HasCome s from y v outs) (is_query m w of) come in
            let taken : Took s.parts (answer_query from w (let d = s.disk in d.intents) (coord_at s)) ≡ Took v outs = n.takes in
            let same : s.parts ≡ v = cc taken in
            subst (λ (y : Parts). AreVoted f.act f.code x y.coord T) same had.1

        by : (b : Bool) → is_for_parts m ≡ b → AreVoted f.act f.code x v.coord T
        by true mine = let l = (subst (Leaves s.parts from (asks m)) come.takes (message_left s.node s.disk s.parts from m mine)).0 in
            subst (λ (q : Coord). AreVoted f.act f.code x q T) (sym l.coord) had.1
        by false mine = coordinator (coordinated m) refl mine

  pub kept_message : (e k : ℕ) (d : Disk) (t v : Parts) (from : ℕ) (m : Message) (outs : List Effect) (M : Seen) → G (up k d t M) →
      (z : Kept (up k d t M)) → Knows (up k d t M) z → In (record { from = from; to = k; message = m }) M.sent → is_meant t m ≡ true →
      handle k d t from m ≡ Took v outs → Walks (From (up k d t M) z) e k outs (Up (From (up k d t M) z) k v) d M
  kept_message e k d t v from m outs M more z known there meant is =
      let s : Spot = record { node = k; disk = d; parts = t; seen = M } in
      kept_walk Apt V x R z.0 e k outs v d M (λ f a. let g = z.3 f a in g.0) (keeps.message z.0 e k d t v from m outs M more z.1.0 z.2 there
      meant is) (message_pathed hd z.0 e k d t v from m outs M (pathed_in (up k d t M) z) there meant is)
      (λ f agrees. (
        message_goes f e s from more z agrees (known f agrees) m v outs (record { sent = there; meant = meant; takes = is }),
        message_votes f e s from more z agrees (known f agrees) m v outs (record { sent = there; meant = meant; takes = is }),
      ))

  -- ---- the others

  -- at an input about an action the object is seen through what the coordinator does
  module _ (f : Fixed) (e : ℕ) (s : Spot) (more : G (world_at s)) (z : Kept (world_at s))
      (agrees : AgreesBy (Apt (let M = s.seen in M.start.marks)) f x z.0 (let M = s.seen in M.sent))
      (known : Y f z.0 (let g = z.3 f agrees in g.0) (world_at s)) where
    abbrev b : Case
    b = case_of f x z.0 (let g = z.3 f agrees in g.0)

    abbrev ActGoes : Input → Type 0
    ActGoes i = let D = acts i (let d = s.disk in d.intents) (coord_at s) in
        Walks (IsSeenSo b) e s.node D.outs (Up (IsSeenSo b) s.node (with_coord s.parts D.part)) s.disk s.seen

    seen_so : IsSeenIn b (world_at s)
    seen_so = seen_in f (world_at s) z agrees

    pub input_goes : (i : Input) → is_act i ≡ true → refusal_up hd i (coord_at s) ≡ None → ActGoes i
    input_goes i is none =
        let q = (gives (let M = s.seen in M.start.marks) f agrees.1).act z.0 (let g = z.3 f agrees in
        g.0) s i ((more, z.2), known) seen_so is none in
        inputs_go hd b s e i seen_so ((gives (let M = s.seen in M.start.marks) f agrees.1).holds z.0 (let g = z.3 f agrees in
        g.0) s ((more, z.2), known) seen_so) q.0 is none
        q.1

  pub kept_act : (e k : ℕ) (d : Disk) (t : Parts) (i : Input) (M : Seen) → is_act i ≡ true → refusal_up hd i t.coord ≡ None →
      G (up k d t M) → (z : Kept (up k d t M)) → Knows (up k d t M) z → let D = acts i d.intents t.coord in
      Walks (From (up k d t M) z) e k D.outs (Up (From (up k d t M) z) k (with_coord t D.part)) d M
  kept_act e k d t i M is none more z known =
      let D = acts i d.intents t.coord in
      let s : Spot = record { node = k; disk = d; parts = t; seen = M } in
      kept_walk Apt V x R z.0 e k D.outs (with_coord t D.part) d M (λ f a. let g = z.3 f a in
      g.0) (keeps.act z.0 e k d t i M is none more z.1.0 z.2) (act_pathed hd z.0 e k d t i M is none (pathed_in (up k d t M) z))
      (λ f agrees. (
        input_goes f e s more z agrees (known f agrees) i is none,
        (λ T run u. let h = had_votes f x k d t M (let g = z.3 f agrees in g.0) T run ((let g = z.3 f agrees in g.3) u) in
            (h.0, acts_are_voted f.act f.code x i d.intents t.coord T (not_begin i is) h.1)),
      ))

  -- an action that isn't refused may stand where it begins
  module _ (f : Fixed) (e : ℕ) (s : Spot) (l : Label) (how : Kind) (parent : Option Label) (z : Kept (world_at s))
      (older : AgreesBy (Apt (let M = s.seen in M.start.marks)) f x z.0 (let M = s.seen in M.sent))
      (new : label_at l (let M = s.seen in M.labels) ≡ None) (may : MayGive (let M = s.seen in M.labels) s.node how parent)
      (none : begin_refusal how (coord_at s) parent ≡ None) where
    abbrev q : Coord
    q = coord_at s

    abbrev o : Option Branch
    o = parent_of parent q

    abbrev p : Path
    p = path_below how o (next_uid q.tree)

    abbrev a : Action
    a = record { path = p; kind = how }

    begins_so : MayBegin z.0 how o
    begins_so = begins.may e s.node s.disk s.parts l how parent s.seen new may none (z.0, z.1.0)

    its_next : IsNext how o q.tree
    its_next = next_path z.0 (let w = older.0.whole in w.begun) how o q.tree begins_so

    open_parent : (b : Branch) → o ≡ Some b → is_some b.ended ≡ false
    open_parent b is = by parent is none
      where
        by : (r : Option Label) → parent_of r q ≡ Some b → begin_refusal how q r ≡ None → is_some b.ended ≡ false
        by None e f = absurd (cc e)
        by (Some y) e f = (off (begin_reasons how b q) (ap (refused_by (begin_reasons how) q) (sym e) ∙ f)).0

    pub may_stand : AgreesBy (Apt (let M = s.seen in M.start.marks)) f x (a ∷ z.0) (let M = s.seen in M.sent) →
        MayStand f.paths how q.tree p
    may_stand agrees = record {
      uid = its_next.uid;
      path = sym path_is ∙ ap f.paths its_next.uid;
      parent = λ h is. let g = its_next.heir h is in
          ap (λ (u : Uid). is_open u q.tree) g.2 ∙ ap is_open_branch (found g.0 g.1) ∙ ap not (open_parent g.0 g.1);
    }
      where
        path_is : f.paths (actor p) ≡ uids_of p
        path_is = (let w = agrees.0.whole in w.agree a (in_to a (a ∷ z.0) (inl refl)))

        good : IsGoodCoord z.0 f.paths q
        good = let n = good_node (case_of f x z.0 (let g = z.3 f older in g.0)) s (seen_in f (world_at s) z older) in n.coord

        found : (b : Branch) → o ≡ Some b → branch_of (actor b.path) q.tree ≡ Some b
        found b is = by parent is
          where
            by : (r : Option Label) → parent_of r q ≡ Some b → branch_of (actor b.path) q.tree ≡ Some b
            by None e = absurd (cc e)
            by (Some y) e = named_found z.0 f.paths (let w = older.0.whole in w.tree) [] q good y b e

  -- with one action more
  abbrev pub FromBegun : Action → (M : Seen) → Kept M → Seen → Type 0
  FromBegun a M z N = LocksFrom Apt V x R (a ∷ z.0) M (λ f w. let g = z.3 f (as_older (Apt M.start.marks) f x a z.0 M.sent w) in g.0) N

  pub kept_begin : (e k : ℕ) (d : Disk) (t : Parts) (l : Label) (how : Kind) (parent : Option Label) (M : Seen) →
      label_at l M.labels ≡ None → MayGive M.labels k how parent → begin_refusal how t.coord parent ≡ None → G (up k d t M) →
      (z : Kept (up k d t M)) → Knows (up k d t M) z
      → let D = begin_action l how parent (parent_of parent t.coord) t.coord in
      Walks (FromBegun (begins_in how parent t) (up k d t M) z) e k D.outs (Up (FromBegun (begins_in how parent t) (up k d t M) z) k
      (with_coord t D.part)) d (given l (record { node = k; serial = is_serial how }) M)
  kept_begin e k d t l how parent M new may none more z known =
      let D = begin_action l how parent (parent_of parent t.coord) t.coord in
      let s : Spot = record { node = k; disk = d; parts = t; seen = M } in
      let N = given l (record { node = k; serial = is_serial how }) M in
      let a : Action = begins_in how parent t in
      kept_walk Apt V x R (a ∷ z.0) e k D.outs (with_coord t D.part) d N (λ f w. let g = z.3 f (as_older
      (Apt M.start.marks) f x a z.0 M.sent w) in
      g.0) (keeps.begin z.0 e k d t l how parent M new may none more z.1.0 z.2)
      (begin_pathed hd z.0 e k d t l how parent M new may none (pathed_in (up k d t M) z))
      (λ f agrees. let older = as_older (Apt M.start.marks) f x a z.0 M.sent agrees in (
        begins_go (case_of f x z.0 (let g = z.3 f older in g.0)) s e l (record { node = k; serial = is_serial how }) how parent
            (parent_of parent t.coord) (seen_in f (world_at s) z older) (let w = agrees.0.whole in
            w.begun.0) (may_stand f e s l how parent z older new may none agrees)
            ((gives M.start.marks f agrees.1).begin z.0 (let g = z.3 f older in g.0) s ((more, z.2), known f older)
            (seen_in f (world_at s) z older)),
        (λ T run u. let h = had_votes f x k d t M (let g = z.3 f older in g.0) T run ((let g = z.3 f older in g.3) u) in
            (h.0, (others_are_voted f.act f.code x t.coord T h.1).0 l how parent)),
      ))

  pub kept_tick : (e k : ℕ) (d : Disk) (t : Parts) (M : Seen) → G (up k d t M) → (z : Kept (up k d t M)) → Knows (up k d t M) z
      → Walks (From (up k d t M) z) e k (tick_outs (record { number = k; disk = d; live = Some t }) t)
      (Up (From (up k d t M) z) k (with_coord t (let q = again_all t.coord.doings t.coord in q.part))) d M
  kept_tick e k d t M more z known =
      let s : Spot = record { node = k; disk = d; parts = t; seen = M } in
      kept_walk Apt V x R z.0 e k (tick_outs (record { number = k; disk = d; live = Some t }) t)
      (with_coord t (let q = again_all t.coord.doings t.coord in q.part)) d M (λ f a. let g = z.3 f a in
      g.0) (keeps.tick z.0 e k d t M more z.1.0 z.2) (tick_pathed hd z.0 e k d t M (pathed_in (up k d t M) z))
      (λ f agrees. let g = z.3 f agrees in let seen = seen_in f (world_at s) z agrees in
      let q = (gives M.start.marks f agrees.1).tick z.0 g.0 s ((more, z.2), known f agrees) seen in (
        ticks_go (case_of f x z.0 g.0) s e seen q.0 q.1 q.2,
        (λ T run u. let h = had_votes f x k d t M g.0 T run (g.3 u) in
            (h.0, (others_are_voted f.act f.code x t.coord T h.1).2 t.coord.doings)),
      ))

  pub kept_restart : (e k : ℕ) (d : Disk) (M : Seen) → G (down k d M) → (z : Kept (down k d M)) → Knows (down k d M) z →
      Walks (From (down k d M) z) e k (restart_outs hd k (d.inc + 1) d) (Up (From (down k d M) z) k (parts_in k (d.inc + 1) d)) d M
  kept_restart e k d M more z known =
      kept_walk Apt V x R z.0 e k (restart_outs hd k (d.inc + 1) d) (parts_in k (d.inc + 1) d) d M (λ f a. let g = z.3 f a in
      g.0) (keeps.restart z.0 e k d M more z.1.0 z.2) (restart_pathed hd z.0 e k d M (pathed_in (down k d M) z))
      (λ f agrees. let g = z.3 f agrees in let seen = seen_in f (down k d M) z agrees in (
        restarts_go hd (case_of f x z.0 g.0) e k d M seen ((gives M.start.marks f agrees.1).restart z.0 g.0 k d M
            ((more, z.2), known f agrees) seen),
        (λ T run u. new_votes f x k d M (d.inc + 1) d.intents g.0 T run (g.3 u)),
      ))

  pub first_kept : IsAtStarts hd Kept
  first_kept st formed = let r = first_pathed hd st formed in (
    [],
    r.1,
    keeps.first st formed,
    (λ f agrees.
        let g = first_goes hd st f x ((gives st.marks f agrees.1).first st formed) in
        (g.0, g.1, g.2, (λ u. first_votes hd f x g.0 st formed))),
    r.0.1,
  )
