-- Where a store holds a state above the one that an open commit sends it, naming isn't any more in the incarnation in which the lock of the
-- root, as the commit's plan names it, was granted.
use Rattle.arj_law_parts.proofs.Words
use Words.{◌≡◌, ◌⊎◌, ◌≤◌, ◌∙◌, ◌==◌, ◌+◌, ◌++◌, ℕ, Bool, true, false, if◌then◌else◌, List, [], ◌∷◌, Option, Some, None, refl, sym, ap}
use Words.{subst, inl, inr, arith, is_some}
use Words.{eqb-true, Header, Line, Start, Uid, ObjectState, object, held_at, Used, Plan, Machine, Voting, Preparing, Confirming, plan_of}
use Words.{Committing}
use Words.{Node, Parts, Seen, changed_of, find}
use Rattle.arj_promise.specs.Runs.{HeaderFits}
use Rattle.arj_law_disk.specs.machine.State.{Below, state_for, target}
use Rattle.arj_law_disk_view.specs.view.Pairs.{packed}
use Rattle.arj_law_disk_view.specs.view.Plans.{plan_at, plan_by, used_at}
use Rattle.arj_law_serial.proofs.Terms.{object_line}
use Rattle.arj_model.specs.Refusals.{incarnation}
use Rattle.arj_promise.specs.Starts.{next_inc}
use Rattle.arj_law_cause.specs.rows.Early.{IsEarly}
use Rattle.arj_law_cause.proofs.confirm.{Awake.AreLeft, Awake.IsAwake, Awake.IsLife, Awake.awake, Awake.early_less, Awake.left_behind}
use Rattle.arj_law_cause.proofs.confirm.{GivenUp.HasGoneOn, GivenUp.gone_on, Late.no_late, Opened.IsAtCommit, Opened.IsLeft}
use Rattle.arj_law_cause.proofs.confirm.{Reached.Reached}
use Rattle.arj_law_cause.proofs.confirm.{Nexts.IsNoLater, Rising.RisesFrom, Rising.rises, Rising.rises_behind}

node_is : {a b : Node} → Some a ≡ Some b → a ≡ b
node_is {a} {b} e = let z : ◌≡◌ {A = Option Node} (Some a) (Some b) = e in cc

-- what is used of an object is among all that is
used_some : (x : ℕ) (us : List Used) (r : Used) → used_at x us ≡ Some r → (w : Used) × (ws : List Used) × (us ≡ w ∷ ws)
used_some x [] r is = let no_way : ◌≡◌ {A = Option Used} None (Some r) = is in absurd (cc no_way)
used_some x (u ∷ us) r is = (u, us, refl)

module _ (hd : Header) (y : ℕ) (form : HeaderFits hd) (line : is_some (object_line hd y) ≡ true) (Z : Seen) (reached : Reached hd Z)
    (early : IsEarly Z.lines) (u : Uid) (c : IsAtCommit Z u) (left : IsLeft c.machine) (r : Used)
    (used : used_at y (let p = plan_of c.machine in p.used) ≡ Some r) (j : ℕ) (node : Node) (parts : Parts)
    (stored : Z.nodes j ≡ Some node) (working : node.live ≡ Some parts) (g : ObjectState)
    (goal : target (plan_at y (plan_of c.machine)) j ≡ true)
    (held : held_at (object y) (let d = node.disk in d.store) ≡ Some g)
    (late : Below (packed g) (state_for (plan_at y (plan_of c.machine))) → ⊥) (level : incarnation Z.start Z.lines 1 ≡ r.grant) where
  abbrev A : IsAwake hd Z
  A = awake hd form Z reached

  abbrev V : Seen
  V = let z = awake hd form Z reached in z.seen

  -- nodes that are up are the same there
  same_node : (i : ℕ) (n : Node) (t : Parts) → Z.nodes i ≡ Some n → n.live ≡ Some t → V.nodes i ≡ Some n
  same_node i n t there live = by (i == 1) refl
    where
      by : (b : Bool) → (i == 1) ≡ b → V.nodes i ≡ Some n
      by true one = ap V.nodes (eqb-true i 1 one) ∙ A.own n t (ap Z.nodes (sym (eqb-true i 1 one)) ∙ there) live
          ∙ ap Z.nodes (sym (eqb-true i 1 one)) ∙ there
      by false other = A.others i other ∙ there

  early_there : IsEarly V.lines
  early_there = let s = A.like in early_less V.lines Z.lines
      (subst (λ ls. AreLeft ls Z.lines) (sym s.theirs) (subst (AreLeft (A.front ++ s.rest)) (sym s.lines)
      (left_behind A.front s.rest s.gone s.left))) early

  -- naming's incarnation was no later, as it last worked
  low : incarnation Z.start A.front 1 ≤ r.grant
  low = let s = A.like in subst (λ i. incarnation Z.start A.front 1 ≤ i) (ap (λ ls. incarnation Z.start ls 1) (sym s.lines) ∙ level)
      (rises_behind (Z.start.incs 1 + 1) A.front s.gone (subst (λ ls. RisesFrom
      (Z.start.incs 1 + 1) ls) s.lines (rises hd Z reached)))

  -- naming's node is in no incarnation after that
  module _ (present : IsNoLater A.node r.grant) where
    waiting : (p : Plan) → c.machine ≡ Confirming p → ⊥
    waiting p is = no_late hd y form line V A.reached early_there A.node A.there u c.node c.parts
        (same_node u.node c.node c.parts c.there c.live) c.live c.branch c.found c.unended c.doing p c.does (c.now ∙ ap Committing is) r
        (ap (λ m. used_at y (let z = plan_of m in z.used)) (sym is) ∙ used) present j node g
        (ap (λ m. target (plan_at y (plan_of m)) j) (sym is) ∙ goal) (same_node j node parts stored working) held
        (λ b. late (subst (λ m. Below (packed g) (state_for (plan_at y (plan_of m)))) (sym is) b))

    preparing : (p : Plan) (left : List ℕ) → c.machine ≡ Preparing p left → ⊥
    preparing p left is = no_late hd y form line N.seen N.reached (N.early early_there) first.0 first.1 u
        (record { number = u.node; disk = let n = c.node in n.disk; live = Some N.parts }) N.parts N.here refl c.branch N.found c.unended
        N.doing N.plan N.works N.now r (ap (used_at y) N.used ∙ its_used) first.2
        j its_store.0 g (ap (λ q. target q j) same_plan ∙ ap (λ m. target (plan_at y (plan_of m)) j) (sym is) ∙ goal) its_store.1
        (ap (λ d. held_at (object y) d) its_store.2 ∙ held)
        (λ b. late (subst (λ q. Below (packed g) (state_for q)) (same_plan ∙ ap (λ m. plan_at y (plan_of m)) (sym is)) b))
      where
        its_used : used_at y p.used ≡ Some r
        its_used = ap (λ m. used_at y (let z = plan_of m in z.used)) (sym is) ∙ used

        some : (w : Used) × (ws : List Used) × (p.used ≡ w ∷ ws)
        some = used_some y p.used r its_used

        N : HasGoneOn hd V u (let n = c.node in n.disk) c.parts c.branch p
        N = gone_on hd V A.reached u c.node c.parts (same_node u.node c.node c.parts c.there c.live) c.number c.live c.branch c.found
            c.unended c.doing c.does p left (c.now ∙ ap Committing is) some.0 some.1 some.2

        -- what it is planned to do stays
        same_plan : plan_at y N.plan ≡ plan_at y p
        same_plan = λ i. plan_by (used_at y (N.used i)) (find (λ s. Words.uid_eq s.uid (object y)) (N.changed i))

        -- a node that is up has the disk that it had, and is up
        still : (i : ℕ) (n : Node) (t : Parts) → V.nodes i ≡ Some n → n.live ≡ Some t →
            (m : Node) × (v : Parts) × (N.seen.nodes i ≡ Some m) × (m.live ≡ Some v) × (m.disk ≡ n.disk)
        still i n t there live = by (i == u.node) refl
          where
            by : (b : Bool) → (i == u.node) ≡ b →
                (m : Node) × (v : Parts) × (N.seen.nodes i ≡ Some m) × (m.live ≡ Some v) × (m.disk ≡ n.disk)
            by true one = (
              record { number = u.node; disk = let z = c.node in z.disk; live = Some N.parts },
              N.parts,
              ap N.seen.nodes (eqb-true i u.node one) ∙ N.here,
              refl,
              ap (λ (z : Node). z.disk) (node_is (sym (same_node u.node c.node c.parts c.there c.live)
                  ∙ ap V.nodes (sym (eqb-true i u.node one)) ∙ there)),
            )
            by false other = (n, t, N.others i other ∙ there, live, refl)

        first : (m : Node) × (N.seen.nodes 1 ≡ Some m) × IsNoLater m r.grant
        first = by present
          where
            by : IsNoLater A.node r.grant → (m : Node) × (N.seen.nodes 1 ≡ Some m) × IsNoLater m r.grant
            by (inl z) = let s = still 1 A.node z.0 A.there z.1 in
                (s.0, s.2, inl (s.1, s.3, subst (λ (d : Words.Disk). d.inc ≤ r.grant) (sym s.4) z.2))
            by (inr z) = (A.node, N.others 1 (apart (1 == u.node) refl) ∙ A.there, inr z)
              where
                -- the action's node is up, and this one isn't
                apart : (b : Bool) → (1 == u.node) ≡ b → b ≡ false
                apart false e = refl
                apart true e = let no_way : ◌≡◌ {A = Option Parts} None (Some c.parts) =
                    sym z.0 ∙ ap (λ (n : Node). n.live) (node_is (sym A.there ∙ ap V.nodes (eqb-true 1 u.node e)
                    ∙ same_node u.node c.node c.parts c.there c.live)) ∙ c.live in absurd (cc no_way)

        its_store : (m : Node) × (N.seen.nodes j ≡ Some m) × ((let d = m.disk in d.store) ≡ (let d = node.disk in d.store))
        its_store = let z = still j node parts (same_node j node parts stored working) working in
            (z.0, z.2, ap (λ (d : Words.Disk). d.store) z.4)

    none : ⊥
    none = by left
      where
        by : IsLeft c.machine → ⊥
        by (inl z) = preparing z.0 z.1 z.2
        by (inr z) = waiting z.0 z.1

  -- but the lock was granted in one in which naming was up
  pub no_such : next_inc Z.start 1 ≤ r.grant → ⊥
  no_such since = none (by A.life)
    where
      by : IsLife Z.start A.front A.node → IsNoLater A.node r.grant
      by (inl z) = inl (z.0, z.1, subst (λ i. i ≤ r.grant) z.2 low)
      by (inr z) = inr (
        z.0,
        last (Z.start.incs 1) (let n = A.node in let d = n.disk in d.inc) r.grant
            (subst (λ b. (if b then Z.start.incs 1 + 1 else Z.start.incs 1 + 2) ≤ r.grant) z.1 since) z.2,
      )
        where
          last : (a i g : ℕ) → a + 2 ≤ g → i ≡ a + 1 → i + 1 ≤ g
          last a i g le is = omega (arith, le, is)
