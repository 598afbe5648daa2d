-- What a coordinator waits for when it was answered: it asks for it then, or waited for it before.
use Rattle.arj_law_parts.proofs.Words
use Words.{◌≡◌, ◌≢◌, ◌⊎◌, ◌∙◌, ◌+◌, eqb-true, ℕ, Bool, true, false, cond, List, [], ◌∷◌, ◌++◌, refl, sym, ap, subst, inl, inr, ⊎_elim}
use Words.{Option, Some, None, map, arith, ⊤, ◌&&◌, ◌||◌, ◌==◌, not, if◌then◌else◌, nat_tests, and_parts, In, in_right, request_reads_back}
use Words.{Asked, Ask, ConfirmedReply, End, Message, Path, PreparedReply, Uid, VotedReply, request, Reply, actor, ask_kind, reply_kind}
use Words.{asks_all, asks_machine, asks_node, commits_in, doomed_by, ends_call, goes_on, heard, heard_by, heard_call, heard_doing}
use Words.{heard_none, heard_now, kept_at, mark_lines, moved_commit, root_heard, root_moved, step_call, step_commit, waits_for_call}
use Words.{waits_for_commit, At, CallEnd, CallStep, Ended, On, Steps, ask_at, next_ask, next_node, Aborts, Asks, CommitStep, Confirming}
use Words.{Decides, Machine, Marked, Plan, Preparing, Stays, Used, Voting, ask_of, left_of, plan_of, waiting, Calling, Committing, Coord}
use Words.{Doing, Idle, Now, doing_of, is_free, on_doing, on_root, Effect, Intent, Send, Served, decide, ended, root_after, has, put_uid}
use Words.{with_number, without_number, at_place, ended_at, root_of}
use Words.ending
use Words.voted
use Words.prepared
use Words.confirmed
use Words.calls
use Words.commit
use Rattle.arj_law_runs.proofs.Terms.{doomed_same, end_tree_on, AsksFor, Want, want_of_call, want_of_commit}
use Rattle.arj_law_runs.proofs.coordinators.CoordUses.{on_cases, some_is}

-- these effects ask for it
pub record AsksIn (outs : List Effect) (w : Want) : Type 0 where
  pub message : Message
  pub sent : In (Send w.node message) outs
  pub asks : AsksFor w message

-- the commit waited for that before too, and of another node than the one that answers
pub record Waited (from : ℕ) (before : Now) (u : Uid) (m : Machine) (n : ℕ) : Type 0 where
  pub was : Machine
  pub is : before ≡ Committing was
  pub left : has (left_of was) n ≡ true
  pub other : n ≢ from
  pub same : want_of_commit u was n ≡ want_of_commit u m n

-- what the action waits for now is asked for, or was waited for before
abbrev pub Goes : ℕ → Now → List Effect → Uid → Now → Type 0
Goes from before outs u Idle = ⊤
Goes from before outs u (Calling s) = AsksIn outs (want_of_call u s)
Goes from before outs u (Committing m) = (n : ℕ) → has (left_of m) n ≡ true → AsksIn outs (want_of_commit u m n) ⊎ Waited from before u m n

-- Other actions wait for what they waited for, and this one for what is asked for, or what it waited for before.
pub record Moves (from : ℕ) (before : Now) (u : Uid) (c e : Coord) (outs : List Effect) : Type 0 where
  pub others : (w : Uid) (q : Doing) → w ≢ u → doing_of w e ≡ Some q → doing_of w c ≡ Some q
  pub own : (q : Doing) → doing_of u e ≡ Some q → Goes from before outs u q.now

-- ---- requests

ask_kind_at : (ends : List (Uid × End)) (s : Steps) → ask_kind (next_ask ends s) ≡ ask_kind (next_ask [] s)
ask_kind_at ends s = by s.at
  where
    by : (at : At) → ask_kind (ask_at s.x s.goal ends at) ≡ ask_kind (ask_at s.x s.goal [] at)
    by (calls.AtBind b) = refl
    by (calls.AtLoad k n rest) = refl
    by (calls.AtActivate k st) = refl
    by (calls.AtNote k i) = refl
    by (calls.AtInvoke k i) = refl

pub asks_for : (w : Want) (p : Path) (a : Ask) → actor p ≡ w.act → ask_kind a ≡ w.kind →
    AsksFor w (request (record { path = p; req = w.req }) a)
asks_for w p a who kind = record {
  head = record { path = p; req = w.req };
  ask = a;
  is = request_reads_back (record { path = p; req = w.req }) a;
  by = λ i. record { act = who i; req = w.req };
  kind = kind;
}

-- a step of a call is asked for
pub step_asked : (u : Uid) (s : Steps) (ends : List (Uid × End)) (outs : List Effect) → actor s.path ≡ u →
    In (Send (next_node s) (request (record { path = s.path; req = s.req }) (next_ask ends s))) outs → AsksIn outs (want_of_call u s)
step_asked u s ends outs who sent = record {
  message = request (record { path = s.path; req = s.req }) (next_ask ends s);
  sent = sent;
  asks = asks_for (want_of_call u s) s.path (next_ask ends s) who (ask_kind_at ends s);
}

-- what is asked of a list of nodes, one after another
pub all_asked : (p : Path) (req : ℕ) (all : List (ℕ × Ask)) (c : Coord) (a : ℕ × Ask) → In a all →
    In (Send a.0 (request (record { path = p; req = req }) a.1)) (asks_all p req all c).outs
all_asked p req [] c a i = absurd i
all_asked p req (b ∷ rest) c a (inl is) = inl (λ i. let q : ℕ × Ask = is i in Send q.0 (request (record { path = p; req = req }) q.1))
all_asked p req (b ∷ rest) c a (inr i) = inr (all_asked p req rest (asks_node p req b c).part a i)

pub all_doing : (p : Path) (req : ℕ) (all : List (ℕ × Ask)) (c : Coord) (w : Uid) → doing_of w (asks_all p req all c).part ≡ doing_of w c
all_doing p req [] c w = refl
all_doing p req (b ∷ rest) c w = all_doing p req rest (asks_node p req b c).part w

in_waiting : (f : ℕ → Ask) (ns : List ℕ) (n : ℕ) → has ns n ≡ true → In (n, f n) (map {A = ℕ} {B = ℕ × Ask} (λ j. (j, f j)) ns)
in_waiting f [] n is = absurd (cc is)
in_waiting f (k ∷ ks) n is = by (k == n) refl is (in_waiting f ks n)
  where
    by : (b : Bool) → (k == n) ≡ b → (b || has ks n) ≡ true → (has ks n ≡ true →
        In (n, f n) (map {A = ℕ} {B = ℕ × Ask} (λ j. (j, f j)) ks)) → In (n, f n) ((k, f k) ∷ map {A = ℕ} {B = ℕ × Ask} (λ j. (j, f j)) ks)
    by true same there ih = inl (let k_is : k ≡ n = eqb-true k n same in λ i. (k_is i, f (k_is i)))
    by false same there ih = inr (ih there)

pub machine_asked : (u : Uid) (m : Machine) (c : Coord) (n : ℕ) → actor (plan_of m).path ≡ u → has (left_of m) n ≡ true →
    AsksIn (asks_machine m c).outs (want_of_commit u m n)
machine_asked u m c n who left = record {
  message = request (record { path = (plan_of m).path; req = (plan_of m).req }) (ask_of m n);
  sent = all_asked (plan_of m).path (plan_of m).req (waiting m) c (n, ask_of m n) (in_waiting (ask_of m) (left_of m) n left);
  asks = asks_for (want_of_commit u m n) (plan_of m).path (ask_of m n) who refl;
}

-- ---- calls

call_goes : (from : ℕ) (before : Now) (u : Uid) (s : Steps) (c : Coord) → actor s.path ≡ u →
    Moves from before u c (goes_on s c).part (goes_on s c).outs
call_goes from before u s c who = record {
  others = λ w q other is. ⊎_elim (λ same. absurd (other (same.0 ∙ who))) (λ old. old.1) (on_cases (actor s.path) f c w q is);
  own = λ q is. ⊎_elim (λ same. subst (Goes from before (goes_on s c).outs u) (ap (λ (d : Doing). d.now) same.3) asked)
      (λ old. absurd (old.0 (sym who))) (on_cases (actor s.path) f c u q is);
}
  where
    f : Doing → Doing
    f d = record d { req = s.req; now = Calling s }

    asked : AsksIn (goes_on s c).outs (want_of_call u s)
    asked = step_asked u s _ (goes_on s c).outs who (inl refl)

-- an action that isn't at work any more
idles : (from : ℕ) (before : Now) (u v : Uid) (c : Coord) (outs : List Effect) → v ≡ u →
    Moves from before u c (on_doing v (λ (d : Doing). record d { now = Idle }) c) outs
idles from before u v c outs who = record {
  others = λ w q other is. ⊎_elim (λ same. absurd (other (same.0 ∙ who))) (λ old. old.1) (on_cases v f c w q is);
  own = λ q is. ⊎_elim (λ same. subst (Goes from before outs u) (ap (λ (d : Doing). d.now) same.3) tt) (λ old. absurd (old.0 (sym who)))
      (on_cases v f c u q is);
}
  where
    f : Doing → Doing
    f d = record d { now = Idle }

-- with the same work
same_work : (from : ℕ) (before : Now) (u : Uid) (c e g : Coord) (outs : List Effect) → ((w : Uid) → doing_of w g ≡ doing_of w e) →
    Moves from before u c e outs → Moves from before u c g outs
same_work from before u c e g outs same m =
    record { others = λ w q other is. m.others w q other (sym (same w) ∙ is); own = λ q is. m.own q (sym (same u) ∙ is) }

pub doomed_work : (v : Uid) (e : CallEnd) (c : Coord) (w : Uid) → doing_of w (doomed_by v e c) ≡ doing_of w c
doomed_work v (calls.Lost n true) c w = let same = doomed_same v c.tree in λ i. cond (same.own w i) (at_place w.num c.doings) None
doomed_work v (calls.Lost n false) c w = refl
doomed_work v (calls.Answered a) c w = refl
doomed_work v (calls.Included st) c w = refl
doomed_work v (calls.Conflict h m n) c w = refl
doomed_work v (calls.Changed n x) c w = refl

call_ends : (from : ℕ) (before : Now) (u : Uid) (s : Steps) (e : CallEnd) (c : Coord) → actor s.path ≡ u →
    Moves from before u c (ends_call s e c).part (ends_call s e c).outs
call_ends from before u s e c who =
    let idle : Coord = on_doing (actor s.path) (λ (d : Doing). record d { now = Idle }) c in
    let noted : Coord = on_root (root_of s.path) (root_heard s e) idle in
    same_work from before u c idle (doomed_by (actor s.path) e noted) (ends_call s e c).outs (λ w. doomed_work (actor s.path) e noted w)
    (idles from before u (actor s.path) c (ends_call s e c).outs who)

pub call_steps : (from : ℕ) (before : Now) (u : Uid) (s : Steps) (step : CallStep) (c : Coord) → actor s.path ≡ u →
    Moves from before u c (step_call s step c).part (step_call s step c).outs
call_steps from before u s (On at) c who = call_goes from before u (record s { req = s.req + 1; at = at }) c who
call_steps from before u s (Ended e) c who = call_ends from before u s e c who

pub call_heard : (from : ℕ) (before : Now) (u : Uid) (s : Steps) (r : Reply) (c : Coord) → actor s.path ≡ u →
    Moves from before u c (heard_call s r c).part (heard_call s r c).outs
call_heard from before u s r c who =
    let moved = calls.answered (is_free (root_of s.path) (actor s.path) s.x c) (kept_at s c) s.goal s.at r in
    let m = call_steps from before u s moved.step (on_root (root_of s.path) (root_moved s r moved) c) who in
    record { others = m.others; own = m.own }

-- ---- commits

-- where lines stand before
behind_lines : (from : ℕ) (before : Now) (u : Uid) (c e : Coord) (lines outs : List Effect) → Moves from before u c e outs →
    Moves from before u c e (lines ++ outs)
behind_lines from before u c e lines outs m = record { others = m.others; own = λ q is. by q.now (m.own q is) }
  where
    more : (w : Want) → AsksIn outs w → AsksIn (lines ++ outs) w
    more w a = record { message = a.message; sent = in_right (Send w.node a.message) lines outs a.sent; asks = a.asks }

    by : (n : Now) → Goes from before outs u n → Goes from before (lines ++ outs) u n
    by Idle g = tt
    by (Calling s) g = more (want_of_call u s) g
    by (Committing k) g = λ n left. ⊎_elim (λ a. inl (more (want_of_commit u k n) a)) (λ was. inr was) (g n left)

pub end_work : (u : Uid) (e : End) (c : Coord) (w : Uid) → doing_of w (record c { tree = ended_at u e c.tree }) ≡ doing_of w c
end_work u e c w = let g = end_tree_on u e c in λ i. cond (g.own w i) (at_place w.num c.doings) None

end_goes : (from : ℕ) (before : Now) (u v : Uid) (e : End) (c : Coord) (outs : List Effect) → v ≡ u →
    Moves from before u c (ended v e c) outs
end_goes from before u v e c outs who =
    let mid : Coord = record c { tree = ended_at v e c.tree } in
    let m = idles from before u v mid outs who in
    record { others = λ w q other is. sym (end_work v e c w) ∙ m.others w q other is; own = m.own }

-- what a commit's step goes on with
abbrev pub Fits : ℕ → Now → Uid → CommitStep → Type 0
Fits from before u (Stays m) = (n : ℕ) → has (left_of m) n ≡ true → Waited from before u m n
Fits from before u (Asks m) = actor (plan_of m).path ≡ u
Fits from before u (Decides p) = actor p.path ≡ u
Fits from before u (Aborts why p) = ⊤

commit_waits : (from : ℕ) (before : Now) (u : Uid) (m : Machine) (c : Coord) (outs : List Effect) → ((n : ℕ) → has (left_of m) n ≡ true →
    AsksIn outs (want_of_commit u m n) ⊎ Waited from before u m n) → Moves from before u c (commits_in u m c) outs
commit_waits from before u m c outs each = record {
  others = λ w q other is. ⊎_elim (λ same. absurd (other same.0)) (λ old. old.1) (on_cases u f c w q is);
  own = λ q is. ⊎_elim (λ same. subst (Goes from before outs u) (ap (λ (d : Doing). d.now) same.3) each) (λ old. absurd (old.0 refl))
      (on_cases u f c u q is);
}
  where
    f : Doing → Doing
    f d = record d { req = (plan_of m).req; now = Committing m }

decide_goes : (from : ℕ) (before : Now) (u : Uid) (p : Plan) (c : Coord) → actor p.path ≡ u →
    Moves from before u c (decide p c).part (decide p c).outs
decide_goes from before u p c who =
    same_work from before u c noted (decide p c).part (decide p c).outs (λ w. awaited w (commit.has_record p)) (record {
      others = λ w q other is.
          ⊎_elim (λ same. absurd (other (same.0 ∙ who))) (λ old. m.others w q other old.1) (on_cases (actor p.path) f idle w q is);
      own = λ q is. ⊎_elim (λ same. subst (Goes from before (decide p c).outs u) (ap (λ (d : Doing). d.now) same.3) (m.own same.1 same.2))
          (λ old. m.own q old.1) (on_cases (actor p.path) f idle u q is);
    })
  where
    f : Doing → Doing
    f d = record d { took = commit.participants p }

    idle : Coord
    idle = ended (actor p.path) ending.Commit c

    noted : Coord
    noted = on_doing (actor p.path) f idle

    m : Moves from before u c idle (decide p c).outs
    m = end_goes from before u (actor p.path) ending.Commit c (decide p c).outs who

    awaited : (w : Uid) (b : Bool) → doing_of w (if b then record (on_root (root_of p.path) (root_after p) noted) {
      telling = put_uid (actor p.path) (record { root = root_of p.path; nodes = commit.participants p })
          (on_root (root_of p.path) (root_after p) noted).telling;
    } else on_root (root_of p.path) (root_after p) noted) ≡ doing_of w noted
    awaited w true = refl
    awaited w false = refl

pub commit_steps : (from : ℕ) (before : Now) (u : Uid) (step : CommitStep) (intents : List (Uid × Intent)) (c : Coord) →
    Fits from before u step → Moves from before u c (step_commit u step intents c).part (step_commit u step intents c).outs
commit_steps from before u (Stays m) intents c fits = commit_waits from before u m c [] (λ n left. inr (fits n left))
commit_steps from before u (Asks m) intents c fits =
    let e : Coord = commits_in u m c in
    same_work from before u c e (asks_machine m e).part (asks_machine m e).outs
    (λ w. all_doing (plan_of m).path (plan_of m).req (waiting m) e w)
    (commit_waits from before u m c (asks_machine m e).outs (λ n left. inl (machine_asked u m e n (fits) left)))
commit_steps from before u (Decides p) intents c fits = decide_goes from before u p c fits
commit_steps from before u (Aborts why p) intents c fits =
    end_goes from before u u ending.Abort c (step_commit u (Aborts why p) intents c).outs refl

pub commit_moves : (from : ℕ) (before : Now) (u : Uid) (m : Marked) (intents : List (Uid × Intent)) (c : Coord) →
    Fits from before u m.step → Moves from before u c (moved_commit u m intents c).part (moved_commit u m intents c).outs
commit_moves from before u m intents c fits = behind_lines from before u c (moved_commit u m intents c).part (mark_lines u m.marks c)
    (step_commit u m.step intents c).outs (commit_steps from before u m.step intents c fits)

-- ---- answers of a commit

or_true : (a b : Bool) → b ≡ true → (a || b) ≡ true
or_true true b is = refl
or_true false b is = is

-- a number that is left without another
pub has_left : (from n : ℕ) (ns : List ℕ) → has (without_number from ns) n ≡ true → (has ns n ≡ true) × (n ≢ from)
has_left from n [] is = absurd (cc is)
has_left from n (k ∷ ks) is = by (k == from) refl is (has_left from n ks)
  where
    one : (b : Bool) → (k == from) ≡ false → (k == n) ≡ b → (b || has (without_number from ks) n) ≡ true →
        (has (without_number from ks) n ≡ true → (has ks n ≡ true) × (n ≢ from)) → ((b || has ks n) ≡ true) × (n ≢ from)
    one true apart same there ih =
        (refl, λ back. let no_way : false ≡ true = sym apart ∙ ap (λ j. k == j) (sym back) ∙ same in absurd (cc no_way))
    one false apart same there ih = ih there

    by : (b : Bool) → (k == from) ≡ b → has (cond (not b) (k ∷ without_number from ks) (without_number from ks)) n ≡ true →
        (has (without_number from ks) n ≡ true → (has ks n ≡ true) × (n ≢ from)) → (has (k ∷ ks) n ≡ true) × (n ≢ from)
    by true same there ih = let r = ih there in (or_true (k == n) (has ks n) r.0, r.1)
    by false apart there ih = one (k == n) apart refl there ih

confirm_fits : (from : ℕ) (before : Now) (u : Uid) (used : List Used) (p : Plan) → actor p.path ≡ u →
    Fits from before u (commit.begin_confirm used p)
confirm_fits from before u [] p who = who
confirm_fits from before u (x ∷ xs) p who = who

prepare_fits : (from : ℕ) (before : Now) (u : Uid) (targets : List ℕ) (p : Plan) → actor p.path ≡ u →
    Fits from before u (commit.begin_prepare targets p)
prepare_fits from before u [] p who = confirm_fits from before u p.used p who
prepare_fits from before u (n ∷ ns) p who = who

-- an answer of another kind
other_kind : {P : Type 0} (a b : ℕ) → a ≡ b → (a == b) ≡ false → P
other_kind a b is apart = let no_way : true ≡ false = sym (eqb_same a b is) ∙ apart in absurd (cc no_way)
  where
    eqb_same : (a b : ℕ) → a ≡ b → (a == b) ≡ true
    eqb_same a b is = grind (arith, nat_tests)

voted_fits : (from : ℕ) (u : Uid) (p : Plan) (left : List ℕ) (r : VotedReply) → actor p.path ≡ u →
    Fits from (Committing (Voting p left)) u (commit.voted_by from left p r).step
voted_fits from u p left (voted.Changed w) who = tt
voted_fits from u p left (voted.Yes states) who = by (without_number from left) refl
  where
    now : Plan
    now = record p { changed = commit.with_states states p.changed }

    by : (ns : List ℕ) → without_number from left ≡ ns → Fits from (Committing (Voting p left)) u (commit.votes_left ns now)
    by [] is = prepare_fits from (Committing (Voting p left)) u (commit.targets_of now) now who
    by (n ∷ ns) is = λ j there. let old = has_left from j left (ap (λ ms. has ms j) is ∙ there) in
        record { was = Voting p left; is = refl; left = old.0; other = old.1; same = refl }

stores_fits : (from : ℕ) (u : Uid) (p now : Plan) (left ns : List ℕ) → actor now.path ≡ u → now.req ≡ p.req → ((j : ℕ) → has ns j ≡ true →
    (has left j ≡ true) × (j ≢ from)) → Fits from (Committing (Preparing p left)) u (commit.stores_left ns now).step
stores_fits from u p now left [] who req fewer = confirm_fits from (Committing (Preparing p left)) u now.used now who
stores_fits from u p now left (n ∷ ns) who req fewer = λ j there. let old = fewer j there in record {
  was = Preparing p left;
  is = refl;
  left = old.0;
  other = old.1;
  same = λ i. record { act = u; req = sym req i; kind = 7; node = j };
}

prepared_fits : (from : ℕ) (u : Uid) (p : Plan) (left : List ℕ) (r : PreparedReply) → actor p.path ≡ u →
    Fits from (Committing (Preparing p left)) u (commit.prepared_by from left p r).step
prepared_fits from u p left prepared.Yes who = stores_fits from u p (record p { prepared = with_number from p.prepared }) left
    (without_number from left) who refl (λ j there. has_left from j left there)
prepared_fits from u p left (prepared.InDoubt x holder) who =
    stores_fits from u p (commit.marks_store from p) left (without_number from left) who refl (λ j there. has_left from j left there)
prepared_fits from u p left (prepared.Old x v) who = tt

confirmed_fits : (from : ℕ) (u : Uid) (p : Plan) (r : ConfirmedReply) → actor p.path ≡ u →
    Fits from (Committing (Confirming p)) u (commit.confirmed_by p r)
confirmed_fits from u p confirmed.Yes who = who
confirmed_fits from u p (confirmed.Conflict holder m) who = tt
confirmed_fits from u p (confirmed.Changed w) who = tt
confirmed_fits from u p (confirmed.NoStores x) who = tt
confirmed_fits from u p (confirmed.Listed x s) who = tt

pub answered_fits : (from : ℕ) (u : Uid) (m : Machine) (r : Reply) → actor (plan_of m).path ≡ u → reply_kind r ≡ ask_kind (ask_of m from) →
    Fits from (Committing m) u (commit.answered from m r).step
answered_fits from u (Voting p left) (Reply.Voted r) who kind = voted_fits from u p left r who
answered_fits from u (Voting p left) (Reply.Bound r) who kind = other_kind 1 6 kind refl
answered_fits from u (Voting p left) (Reply.Loaded r) who kind = other_kind 2 6 kind refl
answered_fits from u (Voting p left) (Reply.Activated r) who kind = other_kind 3 6 kind refl
answered_fits from u (Voting p left) (Reply.Noted r) who kind = other_kind 4 6 kind refl
answered_fits from u (Voting p left) (Reply.Invoked r) who kind = other_kind 5 6 kind refl
answered_fits from u (Voting p left) (Reply.Prepared r) who kind = other_kind 7 6 kind refl
answered_fits from u (Voting p left) (Reply.Confirmed r) who kind = other_kind 8 6 kind refl
answered_fits from u (Preparing p left) (Reply.Prepared r) who kind = prepared_fits from u p left r who
answered_fits from u (Preparing p left) (Reply.Bound r) who kind = other_kind 1 7 kind refl
answered_fits from u (Preparing p left) (Reply.Loaded r) who kind = other_kind 2 7 kind refl
answered_fits from u (Preparing p left) (Reply.Activated r) who kind = other_kind 3 7 kind refl
answered_fits from u (Preparing p left) (Reply.Noted r) who kind = other_kind 4 7 kind refl
answered_fits from u (Preparing p left) (Reply.Invoked r) who kind = other_kind 5 7 kind refl
answered_fits from u (Preparing p left) (Reply.Voted r) who kind = other_kind 6 7 kind refl
answered_fits from u (Preparing p left) (Reply.Confirmed r) who kind = other_kind 8 7 kind refl
answered_fits from u (Confirming p) (Reply.Confirmed r) who kind = confirmed_fits from u p r who
answered_fits from u (Confirming p) (Reply.Bound r) who kind = other_kind 1 8 kind refl
answered_fits from u (Confirming p) (Reply.Loaded r) who kind = other_kind 2 8 kind refl
answered_fits from u (Confirming p) (Reply.Activated r) who kind = other_kind 3 8 kind refl
answered_fits from u (Confirming p) (Reply.Noted r) who kind = other_kind 4 8 kind refl
answered_fits from u (Confirming p) (Reply.Invoked r) who kind = other_kind 5 8 kind refl
answered_fits from u (Confirming p) (Reply.Voted r) who kind = other_kind 6 8 kind refl
answered_fits from u (Confirming p) (Reply.Prepared r) who kind = other_kind 7 8 kind refl

-- ---- an answer

-- each action at work waits under its own path
pub record IsHome (c : Coord) : Type 0 where
  pub calls : (u : Uid) (q : Doing) (s : Steps) → doing_of u c ≡ Some q → q.now ≡ Calling s → actor s.path ≡ u
  pub commits : (u : Uid) (q : Doing) (m : Machine) → doing_of u c ≡ Some q → q.now ≡ Committing m → actor (plan_of m).path ≡ u

-- it doesn't wait for this answer
abbrev pub IsUnasked : ℕ → Asked → Reply → Now → Type 0
IsUnasked from a r Idle = ⊤
IsUnasked from a r (Calling s) = waits_for_call from a r s ≡ false
IsUnasked from a r (Committing m) = waits_for_commit from a r m ≡ false

steps_is : (s x : Steps) → Calling s ≡ Calling x → s ≡ x
steps_is s x is = cc is

-- An answer is void where nobody waits for it; else who waited moves on.
pub data IsHeardSo (from : ℕ) (a : Asked) (r : Reply) (c : Coord) (s : Served Coord (Unit {0})) : Type 0 where
  Unheard : s.reply ≡ None → ((q : Doing) → doing_of a.act c ≡ Some q → IsUnasked from a r q.now) → IsHeardSo from a r c s
  Heard : (q : Doing) → doing_of a.act c ≡ Some q → s.reply ≡ Some tt →
      ((x : Steps) → q.now ≡ Calling x → waits_for_call from a r x ≡ true) → Moves from q.now a.act c s.part s.outs → IsHeardSo from a r c s

pub heard_so : (from : ℕ) (a : Asked) (r : Reply) (intents : List (Uid × Intent)) (c : Coord) → IsHome c →
    IsHeardSo from a r c (heard from a r intents c)
heard_so from a r intents c home = by (doing_of a.act c) refl
  where
    call : (q : Doing) (s : Steps) → doing_of a.act c ≡ Some q → q.now ≡ Calling s → (b : Bool) → waits_for_call from a r s ≡ b →
        IsHeardSo from a r c (if b then heard_by (heard_call s r c) else heard_none c)
    call q s found is true waits = Heard q found refl (λ x now. let same : Calling s ≡ Calling x = sym is ∙ now in subst (λ y.
        waits_for_call from a r y ≡ true) (steps_is s x same) waits) (call_heard from q.now a.act s r c (home.calls a.act q s found is))
    call q s found is false waits = Unheard refl (λ p there. let same : q ≡ p = some_is q p (sym found ∙ there) in
        subst (IsUnasked from a r) (sym is ∙ ap (λ (d : Doing). d.now) same) waits)

    commits : (q : Doing) (m : Machine) → doing_of a.act c ≡ Some q → q.now ≡ Committing m → (b : Bool) → waits_for_commit from a r m ≡ b →
        IsHeardSo from a r c (if b then heard_by (moved_commit a.act (commit.answered from m r) intents c) else heard_none c)
    commits q m found is true waits =
        let kinds = and_parts (reply_kind r == ask_kind (ask_of m from)) (has (left_of m) from)
        (and_parts ((plan_of m).req == a.req) ((reply_kind r == ask_kind (ask_of m from)) && has (left_of m) from) waits).1 in
        let e = moved_commit a.act (commit.answered from m r) intents c in
        Heard q found refl (λ x now. let no_way : Committing m ≡ Calling x = sym is ∙ now in absurd (cc no_way)) (subst
        (λ n. Moves from n a.act c e.part e.outs) (sym is) (commit_moves from (Committing m) a.act (commit.answered from m r) intents c
        (answered_fits from a.act m r (home.commits a.act q m found is) (eqb-true (reply_kind r) (ask_kind (ask_of m from)) kinds.0))))
    commits q m found is false waits = Unheard refl (λ p there. let same : q ≡ p = some_is q p (sym found ∙ there) in
        subst (IsUnasked from a r) (sym is ∙ ap (λ (d : Doing). d.now) same) waits)

    now : (q : Doing) (n : Now) → doing_of a.act c ≡ Some q → q.now ≡ n → IsHeardSo from a r c (heard_now from a r intents c n)
    now q Idle found is = Unheard refl (λ p there. let same : q ≡ p = some_is q p (sym found ∙ there) in
        subst (IsUnasked from a r) (sym is ∙ ap (λ (d : Doing). d.now) same) tt)
    now q (Calling s) found is = call q s found is (waits_for_call from a r s) refl
    now q (Committing m) found is = commits q m found is (waits_for_commit from a r m) refl

    by : (o : Option Doing) → doing_of a.act c ≡ o → IsHeardSo from a r c (heard_doing from a r intents c o)
    by None none = Unheard refl (λ p there. let no_way : ◌≡◌ {A = Option Doing} None (Some p) = sym none ∙ there in absurd (cc no_way))
    by (Some q) found = now q q.now found refl
