-- Whoever waits to load the object for a current binding asks stores that its entry lists, which hold the last state; in every run.
use Rattle.arj_law_parts.proofs.Words
use Words.{◌≡◌, ◌==◌, ◌&&◌, ℕ, Bool, true, false, List, ◌∷◌, Option, Some, None, refl, sym, ◌∙◌, ap, subst, eqb-true, if◌then◌else◌}
use Words.{and_parts, Uid, object, top_of, Run, Root, root_at, held_at, holder_of, Naming, listed_entry, binding_number, has, uid_number}
use Words.{Node, root_of, Seen}
use Rattle.arj_law_disk_view.proofs.Terms
use Terms.{Action, IsGoodOf, Office, Hold, is_gone, is_idle, some_is, test_same, write_clears, clean, at, up, KnowsFew, KnowsNode}
use Terms.{KnowsKinds, packed, Kinds, SeesStore, SeesBoth, SeesNaming, RecordsKnown, Tests, AreGoodCounted, Agrees, AnswersList, IsCurrent}
use Terms.{PassesListed, PassesLists, TellsLists, ArePlaced, AreRecorded, HasState}
use Rattle.arj_law_disk.specs.machine.State.{last}
use Rattle.arj_law_disk_view.proofs.running
use running.{Copies.agrees_on, Copies.has_state, HeardPlaces.StandsIn, Known.knows_node, ListedBack.holds_write, ListedBack.stores_are}
use running.HeardStarts.{step_idle, step_rooted, step_stands}
use Rattle.arj_law_disk_view.proofs.view.{Planned.has_same, StoreSteps.place_free}
use Rattle.arj_law_disk_view.specs.running.Listed.{IsLoading, LoadsAgree, LoadsListed}
use Rattle.arj_law_lock_view.specs.records.{Claims.AreFitting, Coords.KnowsRecords, Coords.StepStands, Runs.KnowsOfRecords}

-- ---- what a waiting call asks

module _ (x : ℕ) (tops : Kinds) (kinds : KnowsKinds tops) (A : Office) (M : Seen) (both : SeesBoth x tops A M)
    (answers : AnswersList x tops A M) (known : RecordsKnown M) (l : IsLoading x M)
    (top : tops.is_top (uid_number (top_of (let s = l.steps in s.path))) ≡ true)
    (works : is_idle (A.world.disk.stage (uid_number (top_of (let s = l.steps in s.path)))) ≡ true)
    (rooted : is_gone (A.world.disk.stage (A.world.disk.root (uid_number (top_of (let s = l.steps in s.path))))) ≡ false) where
  abbrev its_top : Uid
  its_top = top_of (let s = l.steps in s.path)

  abbrev number : ℕ
  number = binding_number (let k = l.known in k.binding)

  abbrev stores : List ℕ
  stores = (let n = l.first in let e = listed_entry x n.disk.names in e.stores)

  current : (n : Naming) → n ≡ l.naming → (v : ℕ) → number ≡ v → IsCurrent x tops A.world.disk n (top_of (let s = l.steps in s.path)) v
  current n is v same = subst (λ m. IsCurrent x tops A.world.disk m (top_of (let s = l.steps in s.path)) v) (sym is) (record {
    object = l.object;
    made = l.made;
    there = l.found;
    of = l.last;
    unrecorded = l.unrecorded;
    same = l.same ∙ same;
    is_top = top;
    works = works;
    rooted = rooted;
  })

  -- the test of one store
  abbrev one_test : ℕ → ℕ → ℕ → ℕ → Bool
  one_test s y v r = if (y == x) && ((v == number) && (r == s)) then has stores s else true

  abbrev tests : ℕ → Tests
  tests s = record { made = λ v. true; past = λ y v. true; asked = λ y u i. true; low = λ i. true; listed = one_test s }

  tells : (s : ℕ) → TellsLists (tests s)
  tells s = record { made = λ v. refl; past = λ y v. refl; asked = λ y u i. refl; low = λ i. refl }

  passes : (s : ℕ) → PassesLists x tops A.world.disk (tests s) M
  passes s n at_n = subst (λ (z : Node). PassesListed x tops A.world.disk (tests s) z.disk z.live) (some_is l.there at_n)
      (subst (PassesListed x tops A.world.disk (tests s) (let z = l.first in z.disk)) (sym l.first_live) own)
    where
      own : PassesListed x tops A.world.disk (tests s) (let z = l.first in z.disk) (Some l.names)
      own m named y v r low listed = by ((y == x) && ((v == number) && (r == s))) refl
        where
          by : (b : Bool) → ((y == x) && ((v == number) && (r == s))) ≡ b →
              (if b then has (let z = l.first in let e = listed_entry x z.disk.names in e.stores) s else true) ≡ true
          by false off = refl
          by true on =
              let a = and_parts (y == x) ((v == number) && (r == s)) on in
              let c = and_parts (v == number) (r == s) a.1 in
              subst (λ j. has (let z = l.first in let e = listed_entry x z.disk.names in e.stores) j ≡ true) (eqb-true r s c.1)
              (listed (eqb-true y x a.0) (top_of (let z = l.steps in z.path))
              (current m (some_is named l.named) v (sym (eqb-true v number c.0))))

  fitting : (s : ℕ) → AreFitting (tests s) M.sent
  fitting s = record { zero = refl; down = λ y v w le on. refl; answered = answers (tests s) (tells s) (passes s) }

  -- the stores that it asks passed for its binding
  asked : (s : ℕ) → has (l.store ∷ l.rest) s ≡ true → one_test s x number s ≡ true
  asked s on = (subst (λ at. StepStands (tests s) (Run l.op) x its_top root at) l.waits (subst
      (λ g. StepStands (tests s) g x its_top root (let z = l.steps in z.at)) l.goal (subst (λ y. StepStands (tests s) (let z = l.steps in
      z.goal) y its_top root (let z = l.steps in z.at)) l.of (records.kept.steps l.actor l.doing l.steps l.does l.now)))).2 s on
    where
      records : KnowsRecords (tests s) M.sent l.place (let t = l.parts in t.coord)
      records = let c : KnowsOfRecords M.sent l.place (let t = l.parts in t.coord) = known.0.0.0.1.1 l.place l.node l.parts l.up l.live in
          c.records (tests s) (fitting s)

      root : Root
      root = root_at (root_of (let z = l.steps in z.path)) (let t = l.parts in t.coord)

  same_test : (a : ℕ) → (a == a) ≡ true
  same_test a = test_same a

  pub loads_listed : LoadsListed x A M l
  loads_listed = record {
    holds = holds_write x tops A both.named kinds (let s = both.disks in
        s.fixed) l.naming seen its_top number (current l.naming refl number refl);
    listed = λ s on. has_same s A.world.disk.entry.content ∙ (ap (λ ss. has ss s)
        (sym (stores_are x tops (let n = l.first in n.disk.names) A (let d = both.disks in d.entry l.first l.there))) ∙ there s on);
  }
    where
      seen : SeesNaming x tops l.naming A.world.disk A.names
      seen = let n = both.names in n.memory l.first l.names l.naming l.there l.first_live l.named

      there : (s : ℕ) → has (l.store ∷ l.rest) s ≡ true → has stores s ≡ true
      there s on = sym (λ i. if same_test x i && (same_test number i && same_test s i) then has stores s else true) ∙ asked s on

-- ---- every run

-- a node stands at its place
seen_again : (k : ℕ) (n : Node) (M : Seen) → M.nodes k ≡ Some n → n.number ≡ k → M ≡ at k n.disk n.live M
seen_again k n M there is = λ i. record M { nodes = λ m. by m (m == k) refl i }
  where
    by : (m : ℕ) (b : Bool) → (m == k) ≡ b →
        M.nodes m ≡ (if b then Some (record { number = k; disk = n.disk; live = n.live }) else M.nodes m)
    by m true e = ap M.nodes (eqb-true m k e) ∙ there ∙ λ i. Some (record { number = is i; disk = n.disk; live = n.live })
    by m false e = refl

-- where both halves are carried, with the claims of naming's answers
module _ (x : ℕ) (tops : Kinds) (begun : List Action) (A : Office) (M : Seen) (agree : Agrees tops begun) (good : IsGoodOf begun M)
    (recs : AreRecorded begun M) (placed : ArePlaced begun M) (few : KnowsFew M) (both : SeesBoth x tops A M)
    (numbers : (k : ℕ) (n : Node) → M.nodes k ≡ Some n → n.number ≡ k) (l : IsLoading x M) where
  abbrev All : Seen → Type 0
  All N = (IsGoodOf begun N × AreRecorded begun N) × (ArePlaced begun N × KnowsFew N) × SeesBoth x tops A N

  here : All (up l.place (let n = l.node in n.disk) l.parts M)
  here = subst (λ o. All (at l.place (let n = l.node in n.disk) o M)) l.live
      (subst All (seen_again l.place l.node M l.up (numbers l.place l.node l.up)) ((good, recs), (placed, few), both))

  knows : KnowsNode tops l.place (let n = l.node in n.disk) l.parts M
  knows = knows_node tops begun l.place (let n = l.node in n.disk) l.parts M here.0.0 agree here.0.1 here.1.0

  pub loading_listed : AnswersList x tops A M → RecordsKnown M → LoadsListed x A M l
  loading_listed answers known = loads_listed x tops agree.kinds A M both answers known l (let t = stands.top in t.top)
      (ap is_idle (step_idle tops l.place (let n = l.node in
      n.disk) l.parts M (begun, here.0.0) here.1.1 knows x A here.2 l.actor l.doing l.steps l.does l.now))
      (step_rooted tops l.place (let n = l.node in
      n.disk) l.parts M (begun, here.0.0) here.1.1 knows x A here.2 l.actor l.doing l.steps l.does l.now)
    where
      stands : StandsIn tops (let t = l.parts in t.coord) (let s = l.steps in s.path)
      stands = step_stands tops l.place (let n = l.node in
          n.disk) l.parts M (begun, here.0.0) here.1.1 knows l.actor l.doing l.steps l.does l.now

-- and what each store of those holds that it asks
loads_agree : (x : ℕ) (tops : Kinds) (A : Office) (M : Seen) → SeesBoth x tops A M → ((l : IsLoading x M) → LoadsListed x A M l) →
    LoadsAgree x M
loads_agree x tops A M both listed = (last A.world.disk, agrees_on x tops A.world M both.disks, each)
  where
    each : (l : IsLoading x M) (s : ℕ) (m : Node) → has (l.store ∷ l.rest) s ≡ true → M.nodes s ≡ Some m →
        holder_of (object x) m.disk.store ≡ None → HasState x (last A.world.disk) m
    each l s m on there clear =
        let z = listed l in
        let o : SeesStore x s m.disk.store A.world.disk = (let d = both.disks in d.stores s m there) in
        has_state x (last A.world.disk) m (held_at (object x) m.disk.store) refl
        (o.pair.held_is ∙ (clean A.world (let d = both.disks in d.whole)).stores (free A.world.disk.entry_pend refl) s (z.listed s on)
        (place_free (object x) m.disk.store packed (A.world.disk.held s) (A.world.disk.pend s) o.pair clear))
      where
        free : (o : Option Hold) → A.world.disk.entry_pend ≡ o → A.world.disk.entry_pend ≡ None
        free None is = is
        free (Some h) is = let w = listed l in let q = w.holds in
            absurd (write_clears A both.named (uid_number (top_of (let z = l.steps in z.path))) q.0 q.1 q.2 h is)

-- Both halves of the object are seen in this state, by kinds that agree with the actions that were begun, of which so much is known.
pub record IsSeenBegun (x : ℕ) (tops : Kinds) (A : Office) (M : Seen) : Type 0 where
  pub begun : List Action
  pub agree : Agrees tops begun
  pub good : IsGoodOf begun M
  pub recorded : AreRecorded begun M
  pub placed : ArePlaced begun M
  pub both : SeesBoth x tops A M
  pub numbers : (k : ℕ) (n : Node) → M.nodes k ≡ Some n → n.number ≡ k

-- so it is where bindings are counted, and few were made
pub loads_there : (x : ℕ) (tops : Kinds) (A : Office) (M : Seen) → IsSeenBegun x tops A M → AreGoodCounted M → KnowsFew M →
    AnswersList x tops A M → LoadsAgree x M
loads_there x tops A M s good few answers = loads_agree x tops A M s.both (λ l. loading_listed x tops s.begun A M s.agree s.good s.recorded
    s.placed few s.both s.numbers l answers (let z = good.0.1 in z.1 (let f = few in f.0)).1)
