-- Decisions, records and ends in the machine's terms.
use Rattle.arj_law_parts.proofs.Words
use Words.{◌≡◌, ◌≢◌, ◌⊎◌, ℕ, ◌==◌, ◌&&◌, ◌||◌, not, List, [], ◌∷◌, ◌++◌, Bool, true, false, cond, Option, Some, None, refl, sym, ◌∙◌, ap}
use Words.{subst, inl, inr, ⊎_elim, is_some, list_any, or_parts, and_parts, uid_cases, Uid, entry, participants, included_of}
use Words.{servers_of, naming_node, Intent, at_uid, put_uid, without_uid, uid_number, number_tells, is_empty}
use Words.commit
use Words.order
use Rattle.arj_law_disk_view.proofs.Terms
use Terms.{World, after, State, Stage, Gone, Confirming, naming, decided, undecided, listed_by, open_by, is_open, is_gone, target, put}
use Terms.{test_not, never, falls_to, put_same, put_other, put_cases, SeesPair, packed_entry, SeesStore, plan_at, SeesRecords, nodes_of}
use Terms.{IsCalm}
use Terms.words
use Rattle.arj_law_disk.specs.machine.Effects.{Intend, Decide, Remove, EndBare, Halt}
use Rattle.arj_law_disk_view.proofs.view.Planned.{has_same, has_set, has_both}
use Rattle.arj_law_disk_view.specs.view
use view.Deciding.{RecordIsWritten, DecisionIsMade, CommitsAreUndecided, BareCommitEnds, ActionsMayHalt, RecordIsRemoved, DecisionTells}
use view.Deciding.{EndsMayBeTold, StoresStayCalm, EntryStaysCalm}
use Rattle.arj_law_disk_view.proofs.view.Keys as keys

-- ---- outcomes

gone_less : (b : Bool) (o : Option (List ℕ)) (g : Stage) → open_by b Gone o ≡ true → open_by b g o ≡ true
gone_less true o g u = absurd (cc u)
gone_less false o g u = by (is_open g)
  where
    by : (c : Bool) → (c || is_some o) ≡ true
    by true = refl
    by false = u

-- ---- numbers of actions

apart_numbers : (u w : Uid) → u ≢ w → (uid_number u == uid_number w) ≡ false
apart_numbers u w other = test_not (uid_number u) (uid_number w) (λ e. other (number_tells u w e))

-- ---- a record

module _ (k : ℕ) (intents : List (Uid × Intent)) (S : State) (sees : SeesRecords k intents S) where
  written : (V : State) (u : Uid) (i : Intent) → u.node ≡ k → V.intent ≡ put (uid_number u) (Some i.nodes) S.intent →
      SeesRecords k (put_uid u i intents) V
  written V u i mine is = record {
    sorted = keys.sorted_put u i intents sees.sorted;
    own = λ w j at.
        ⊎_elim (λ same. ap (λ (a : Uid). a.node) same.0 ∙ mine) (λ other. sees.own w j other.1) (keys.put_cases w u i j intents at);
    is = λ w at. ap (λ f. f (uid_number w)) is ∙ ⊎_elim
        (λ same. ap (λ a. put (uid_number u) (Some i.nodes) S.intent (uid_number a)) same ∙ put_same (uid_number u) (Some i.nodes) S.intent
        ∙ sym (ap nodes_of (ap (λ a. at_uid a (put_uid u i intents)) same ∙ keys.put_same u i intents)))
        (λ other. put_other (uid_number u) (Some i.nodes) S.intent (uid_number w) (apart_numbers w u other)
        ∙ sees.is w at ∙ sym (ap nodes_of (keys.put_other w u i intents other)))
        (uid_cases w u);
  }

  removed : (V : State) (u : Uid) → V.intent ≡ put (uid_number u) None S.intent → SeesRecords k (without_uid u intents) V
  removed V u is = record {
    sorted = keys.sorted_without u intents sees.sorted;
    own = λ w j at. sees.own w j (keys.without_cases w u j intents sees.sorted at).1;
    is = λ w at. ap (λ f. f (uid_number w)) is ∙ ⊎_elim
        (λ same. ap (λ a. put (uid_number u) None S.intent (uid_number a)) same ∙ put_same (uid_number u) None S.intent
        ∙ sym (ap nodes_of (ap (λ a. at_uid a (without_uid u intents)) same ∙ keys.without_same u intents sees.sorted)))
        (λ other. put_other (uid_number u) None S.intent (uid_number w) (apart_numbers w u other)
        ∙ sees.is w at ∙ sym (ap nodes_of (keys.without_other w u intents other)))
        (uid_cases w u);
  }

  stays_written : (V : State) → V.intent ≡ S.intent → SeesRecords k intents V
  stays_written V is = record { sorted = sees.sorted; own = sees.own; is = λ w at. ap (λ f. f (uid_number w)) is ∙ sees.is w at }

-- who is among the participants
pub takes_part : (p : commit.Plan) (m : ℕ) → (order.has p.prepared m ≡ true) ⊎ (order.has (naming_node p) m ≡ true) →
    words.has m (participants p) ≡ true
takes_part p m h = has_same m (participants p) ∙ has_set (servers_of p ++ p.prepared ++ naming_node p) m
    (⊎_elim (λ one. has_both (servers_of p ++ p.prepared) (naming_node p) m (inl (has_both (servers_of p) p.prepared m (inr one))))
    (λ two. has_both (servers_of p ++ p.prepared) (naming_node p) m (inr two)) h)

pub record_is_written : RecordIsWritten
record_is_written x k W u i p intents core sees confirmed answered records mine nodes = (
  record {
    sealed = sees.stage;
    confirmed = answered;
    stores = λ s got. takes_part p s (inl (sym (sees.got s (aimed s got)) ∙ got));
    names = takes_part p naming (inr (ap (λ b. order.has (cond b (1 ∷ []) []) naming) confirmed));
  },
  record { rest = refl; outcomes = λ z b v. was_open z v },
  subst (λ ns. SeesRecords k (put_uid u i intents) (after W (Intend t ns)).disk) nodes
      (written k intents W.disk records (after W (Intend t i.nodes)).disk u i mine refl),
)
  where
    t : ℕ
    t = uid_number u

    aimed : (s : ℕ) → W.disk.got t s ≡ true → target (plan_at x p) s ≡ true
    aimed s got = ap (λ q. target q s) (sym sees.plan) ∙ core.coordinators.got_target t s got

    was_open : (z : ℕ) → open_by (decided W.disk z) (W.disk.stage z) (put t (Some (participants p)) W.disk.intent z) ≡ true →
        undecided W.disk z ≡ true
    was_open z = put_cases (λ o. open_by (decided W.disk z) (W.disk.stage z) o ≡ true →
        undecided W.disk z ≡ true) t (Some (participants p)) W.disk.intent z
        (λ same v. closes (decided W.disk z) (ap (λ n. W.disk.stage n) same ∙ sees.stage) v) (λ other v. v)
      where
        closes : (b : Bool) → W.disk.stage z ≡ Confirming → open_by b (W.disk.stage z) (Some (participants p)) ≡ true →
            open_by b (W.disk.stage z) (W.disk.intent z) ≡ true
        closes true is v = absurd (cc v)
        closes false is v = ap (λ g. is_open g || is_some (W.disk.intent z)) is

pub decision_is_made : DecisionIsMade
decision_is_made k W u i intents records there open_yet = (
  (ap is_some (records.is u (records.own u i there) ∙ ap nodes_of there), open_yet),
  record { rest = refl; outcomes = λ z b v. was_open z v },
  stays_written k intents W.disk records (after W (Decide (uid_number u))).disk refl,
)
  where
    t : ℕ
    t = uid_number u

    was_open : (z : ℕ) → open_by ((t == z) || decided W.disk z) (put t Gone W.disk.stage z) (W.disk.intent z) ≡ true →
        undecided W.disk z ≡ true
    was_open z = by (t == z)
      where
        by : (b : Bool) → open_by (b || decided W.disk z) (put t Gone W.disk.stage z) (W.disk.intent z) ≡ true → undecided W.disk z ≡ true
        by true v = absurd (cc v)
        by false v = put_cases (λ g. open_by (decided W.disk z) g (W.disk.intent z) ≡ true → undecided W.disk z ≡ true) t Gone W.disk.stage
            z (λ same u. gone_less (decided W.disk z) (W.disk.intent z) (W.disk.stage z) u) (λ other u. u) v

pub commits_are_undecided : CommitsAreUndecided
commits_are_undecided x S t p core sees =
    falls_to (decided S t) (λ done. never (core.coordinators.decided_closed t done) (ap is_gone sees.stage))

-- a node whose stage goes to its end opens nothing
gone_calm : (W : World) (t : ℕ) (z : ℕ) → open_by (decided W.disk z) (put t Gone W.disk.stage z) (W.disk.intent z) ≡ true →
    undecided W.disk z ≡ true
gone_calm W t z = put_cases (λ g. open_by (decided W.disk z) g (W.disk.intent z) ≡ true → undecided W.disk z ≡ true) t Gone W.disk.stage z
    (λ same u. gone_less (decided W.disk z) (W.disk.intent z) (W.disk.stage z) u) (λ other u. u)

pub bare_commit_ends : BareCommitEnds
bare_commit_ends x k W u p intents sees confirmed plain answered records mine none = (
  record {
    sealed = sees.stage;
    confirmed = answered;
    no_record = records.is u mine ∙ ap nodes_of none;
    untouched = λ s. ap (λ q. target q s) sees.plan ∙ untouched s;
  },
  record { rest = refl; outcomes = λ z b v. gone_calm W (uid_number u) z v },
  stays_written k intents W.disk records (after W (EndBare (uid_number u))).disk refl,
)
  where
    off : (b : Bool) → not b ≡ false → b ≡ true
    off true h = refl
    off false h = absurd (cc h)

    empty_is : {A : Type 0} (xs : List A) → is_empty xs ≡ true → xs ≡ []
    empty_is [] h = refl
    empty_is (a ∷ as_left) h = absurd (cc h)

    parts : (not (is_empty p.prepared) ≡ false) × ((p.confirmed && not (is_empty p.excluded && is_empty (included_of p))) ≡ false)
    parts = or_parts (not (is_empty p.prepared)) (p.confirmed && not (is_empty p.excluded && is_empty (included_of p))) plain

    nobody : p.prepared ≡ []
    nobody = empty_is p.prepared (off (is_empty p.prepared) parts.0)

    unmarked : p.excluded ≡ []
    unmarked = empty_is p.excluded (and_parts (is_empty p.excluded) (is_empty (included_of p)) (off (is_empty p.excluded
        && is_empty (included_of p)) (sym (ap (λ b. b && not (is_empty p.excluded && is_empty (included_of p))) confirmed) ∙ parts.1))).0

    untouched : (s : ℕ) → target (plan_at x p) s ≡ false
    untouched s = none_of (target (plan_at x p) s) (sym (ap (λ ms. list_any (λ (m : ℕ × ℕ). (m.0 == x) && (m.1 == s)) ms) unmarked)
        ∙ sees.marks s ∙ (λ j. target (plan_at x p) s && not (order.has (nobody j) s)))
      where
        none_of : (b : Bool) → false ≡ (b && true) → b ≡ false
        none_of true h = sym h
        none_of false h = refl

-- letting an action go opens nothing
pub halt_calm : (W : World) (t : ℕ) → IsCalm W (after W (Halt t))
halt_calm W t = record { rest = refl; outcomes = λ z b v. gone_calm W t z v }

pub actions_may_halt : ActionsMayHalt
actions_may_halt k W t intents records =
    (record { rest = refl; outcomes = λ z b v. gone_calm W t z v }, stays_written k intents W.disk records (after W (Halt t)).disk refl)

pub record_is_removed : RecordIsRemoved
record_is_removed k W u i intents records there acked = (
  record { record_is = records.is u (records.own u i there) ∙ ap nodes_of there; acked = λ m on. acked m (sym (has_same m i.nodes) ∙ on) },
  record { rest = refl; outcomes = λ z b v. was_open z v },
  removed k intents W.disk records (after W (Remove (uid_number u) i.nodes)).disk u refl,
)
  where
    less : (b c : Bool) (o : Option (List ℕ)) → (not b && (c || false)) ≡ true → (not b && (c || is_some o)) ≡ true
    less true c o v = absurd (cc v)
    less false true o v = refl
    less false false o v = absurd (cc v)

    was_open : (z : ℕ) → open_by (decided W.disk z) (W.disk.stage z) (put (uid_number u) None W.disk.intent z) ≡ true →
        undecided W.disk z ≡ true
    was_open z = put_cases (λ o. open_by (decided W.disk z) (W.disk.stage z) o ≡ true → undecided W.disk z ≡ true) (uid_number u) None
        W.disk.intent z (λ same v. less (decided W.disk z) (is_open (W.disk.stage z)) (W.disk.intent z) v) (λ other v. v)

-- ---- who is told

done_closed : (b c : Bool) → b ≡ true → (not b && c) ≡ false
done_closed true c h = refl
done_closed false c h = absurd (cc h)

pub decision_tells : DecisionTells
decision_tells W u m nodes core done there = (
  done,
  λ off. (
    core.coordinators.decided_closed (uid_number u) done,
    done_closed (decided W.disk (uid_number u)) (is_open (W.disk.stage (uid_number u)) || is_some (W.disk.intent (uid_number u))) done,
    ap (λ o. listed_by o m) there ∙ has_same m nodes ∙ off,
    λ bare. absurd (never done (core.bare.undone (uid_number u) bare)),
  ),
)

pub ends_may_be_told : EndsMayBeTold
ends_may_be_told k W u m intents records mine listed over =
    (ap is_gone (put_same t Gone W.disk.stage), by (at_uid u intents) refl, unlisted (at_uid u intents) refl, over)
  where
    t : ℕ
    t = uid_number u

    by : (o : Option Intent) → at_uid u intents ≡ o → open_by (decided W.disk t) (put t Gone W.disk.stage t) (W.disk.intent t) ≡ false
    by None is = (λ j. open_by (decided W.disk t) (put_same t Gone W.disk.stage j) ((records.is u mine ∙ ap nodes_of is) j))
        ∙ nothing (decided W.disk t)
      where
        nothing : (b : Bool) → open_by b Gone None ≡ false
        nothing true = refl
        nothing false = refl
    by (Some i) is = done_closed (decided W.disk t) (is_open (put t Gone W.disk.stage t) || is_some (W.disk.intent t)) (listed i is).1

    unlisted : (o : Option Intent) → at_uid u intents ≡ o → listed_by (W.disk.intent t) m ≡ false
    unlisted None is = ap (λ o. listed_by o m) (records.is u mine ∙ ap nodes_of is)
    unlisted (Some i) is = ap (λ o. listed_by o m) (records.is u mine ∙ ap nodes_of is) ∙ has_same m i.nodes ∙ (listed i is).0

-- ---- other places

pub stores_stay_calm : StoresStayCalm
stores_stay_calm x s d W V calm sees = subst (λ (S : State). SeesStore x s d S) (sym calm.rest) (record {
  pair = sees.pair;
  planned = λ a ss is. let p = sees.planned a ss is in record { begun = p.begun; named = p.named; there = p.there };
})

pub entry_stays_calm : EntryStaysCalm
entry_stays_calm x d W V calm sees = record {
  pair = subst (λ (S : State). SeesPair packed_entry (entry x) d (Some S.entry) S.entry_pend) (sym calm.rest) sees.pair;
  begun = λ a ss is. ap (λ (S : State). S.begun (uid_number a)) calm.rest ∙ sees.begun a ss is;
  taken = λ a ss is u. ⊎_elim
      (λ c. inl (ap (λ (S : State). S.conf (uid_number a)) calm.rest ∙ c))
      (λ c. inr (ap (λ (S : State). S.light (uid_number a)) calm.rest ∙ c))
      (sees.taken a ss is (calm.outcomes (uid_number a) (sees.begun a ss is) u));
  aimed = λ a ss st is of. let s = sees.aimed a ss st is of in
      (s.0, ap (λ (S : State). target (S.plan (uid_number a)) s.0) calm.rest ∙ s.1);
}
