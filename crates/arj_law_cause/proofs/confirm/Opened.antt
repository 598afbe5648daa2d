-- An open action of the journal whose commit was called is at that commit, at its coordinator.
use Rattle.arj_law_parts.proofs.Words
use Words.{◌≡◌, ◌⊎◌, ◌∙◌, ◌==◌, ◌&&◌, ◌||◌, not, ℕ, Bool, true, false, if◌then◌else◌, List, Option, Some, None, is_some, refl, sym, ap}
use Words.{subst, In}
use Words.{and_parts, eqb-true, in_to, is_on, Header, Node, Parts, Seen, Uid, uid_eq, uid_same, Branch, branch_of, Committing, Doing}
use Words.{Machine, Plan, Preparing, Confirming, Now, Calling, Idle, doing_of, is_committing_now, is_own}
use Rattle.arj_law_parts.proofs.moves.Happens.{keeps_asked}
use Rattle.arj_law_parts.specs.moves.Seen.{up}
use Rattle.arj_law_runs.proofs.follow.Halts.{KnowsAll, halts_keep, is_alive}
use Rattle.arj_law_runs.proofs.journal.Models.{its_acts, its_sound}
use Rattle.arj_law_runs.proofs.kept.Walked.{same_number}
use Rattle.arj_law_runs.specs.journal.Book.{book, new_book}
use Rattle.arj_law_runs.specs.journal.Right.{AreRight}
use Rattle.arj_law_serial.proofs.order.Paths.{own_there}
use Rattle.arj_model.specs.Actions.{Act, acts, ended, halts, has_end, is_halted, is_over, path, uids}
use Rattle.arj_model.specs.Calls.{committings}
use Rattle.arj_model.specs.Refusals.{was_called}
use Rattle.arj_law_cause.proofs.confirm.Called.{is_called}
use Rattle.arj_law_cause.proofs.confirm.Reached.{IsOfWorld, Reached, reached_has, worlds_kept}
use Rattle.arj_law_cause.proofs.waits.waiting.{Called.called_so, Lists.any_in, Lists.any_uids}
use Rattle.arj_law_cause.proofs.waits.waiting.Acting as acting

-- neither of two
neither : (x y : Bool) → (x || y) ≡ false → (x ≡ false) × (y ≡ false)
neither true y is = absurd (cc is)
neither false y is = (refl, is)

-- the action is at its commit, at its node, which is up
pub record IsAtCommit (Z : Seen) (u : Uid) : Type 0 where
  pub node : Node
  pub parts : Parts
  pub there : Z.nodes u.node ≡ Some node
  pub number : node.number ≡ u.node
  pub live : node.live ≡ Some parts
  pub branch : Branch
  pub found : branch_of u parts.coord.tree ≡ Some branch
  pub unended : branch.ended ≡ None
  pub doing : Doing
  pub machine : Machine
  pub does : doing_of u parts.coord ≡ Some doing
  pub now : doing.now ≡ Committing machine

-- the prepare step runs, or the commit waits for naming
abbrev pub IsLeft : Machine → Type 0
IsLeft m = ((p : Plan) × (left : List ℕ) × (m ≡ Preparing p left)) ⊎ ((p : Plan) × (m ≡ Confirming p))

module _ (hd : Header) (Z : Seen) (reached : Reached hd Z) (a : Act) (began : In a (acts Z.lines)) (opened : is_over Z.lines a ≡ false)
    (called : is_called Z.lines a.uid) where
  all : KnowsAll Z
  all = reached_has hd KnowsAll (keeps_asked hd KnowsAll (halts_keep hd)) Z reached

  right : AreRight new_book Z.lines
  right = (let w = all.0.1 in w.right)

  alive : is_alive (Z.nodes (let u = a.uid in u.node)) (let u = a.uid in u.inc) ≡ true
  alive = turn (is_alive (Z.nodes (let u = a.uid in u.node)) (let u = a.uid in u.inc))
      (sym (all.1 a began) ∙ (neither (has_end (ended Z.lines) a.id) (is_halted (halts Z.lines) a) opened).1)
    where
      turn : (b : Bool) → not b ≡ false → b ≡ true
      turn true e = refl
      turn false e = absurd (cc e)

  -- its node
  its_node : (n : Node) × (t : Parts) × (Z.nodes (let u = a.uid in u.node) ≡ Some n) × (n.live ≡ Some t)
      × ((let d = n.disk in d.inc) ≡ (let u = a.uid in u.inc))
  its_node = by (Z.nodes (let u = a.uid in u.node)) refl alive
    where
      by : (o : Option Node) → Z.nodes (let u = a.uid in u.node) ≡ o → is_alive o (let u = a.uid in u.inc) ≡ true →
          (n : Node) × (t : Parts) × (Z.nodes (let u = a.uid in u.node) ≡ Some n) × (n.live ≡ Some t)
          × ((let d = n.disk in d.inc) ≡ (let u = a.uid in u.inc))
      by None at is = absurd (cc is)
      by (Some n) at is = up_so n.live refl
        where
          p : (is_some n.live ≡ true) × (((let d = n.disk in d.inc) == (let u = a.uid in u.inc)) ≡ true)
          p = and_parts (is_some n.live) ((let d = n.disk in d.inc) == (let u = a.uid in u.inc)) is

          up_so : (l : Option Parts) → n.live ≡ l → (m : Node) × (t : Parts) × (Z.nodes (let u = a.uid in u.node) ≡ Some m)
              × (m.live ≡ Some t) × ((let d = m.disk in d.inc) ≡ (let u = a.uid in u.inc))
          up_so None e = let no_way : false ≡ true = sym (ap is_some e) ∙ p.0 in absurd (cc no_way)
          up_so (Some t) e = (n, t, at, e, eqb-true (let d = n.disk in d.inc) (let u = a.uid in u.inc) p.1)

  abbrev n : Node
  n = its_node.0

  abbrev t : Parts
  t = its_node.1

  own : is_own a.uid t.coord.tree ≡ true
  own = (λ i. ((let u = a.uid in u.node) == acting.node_is Z all (let u = a.uid in u.node) n t its_node.2 its_node.3 i)
      && ((let u = a.uid in u.inc) == (acting.inc_is Z all (let u = a.uid in u.node) n t its_node.2 its_node.3 ∙ its_node.4) i))
      ∙ (λ i. same_number (let u = a.uid in u.node) i && same_number (let u = a.uid in u.inc) i)

  on_path : is_on (uids (path (let B = book Z.lines in B.acts) a.label)) a.uid ≡ true
  on_path = ap (λ xs. is_on (uids (path xs a.label)) a.uid) (its_acts Z.lines right)
      ∙ any_uids (λ (w : Uid). uid_eq w a.uid) (path (acts Z.lines) a.label)
      ∙ any_in (λ (b : Act). uid_eq b.uid a.uid) (path (acts Z.lines) a.label) a
      (let s = its_sound Z.lines right in own_there (acts Z.lines) s.distinct s.formed a began) (uid_same a.uid)

  home : (b : Branch) × (branch_of a.uid t.coord.tree ≡ Some b)
  home =
      let k = acting.up Z all (let u = a.uid in u.node) n t its_node.2 its_node.3 in
      k.knows.ties.homes a a.uid (in_to a (let B = book Z.lines in B.acts) (subst (In a) (sym (its_acts Z.lines right)) began)) on_path own

  works : acting.Works Z all (let u = a.uid in u.node) n t its_node.2 its_node.3 a home.0
  works = acting.works Z all (let u = a.uid in u.node) n t its_node.2 its_node.3 a began home.0 home.1

  unended : (let b = home.0 in b.ended) ≡ None
  unended = none (let b = home.0 in b.ended) (sym (let w = works in let s = w.stands in s.over
      ∙ ap (λ (b : Branch). is_some b.ended) w.branch) ∙ ap (is_over Z.lines) (let w = works in w.same) ∙ opened)
    where
      none : {A : Type 0} (o : Option A) → is_some o ≡ false → o ≡ None
      none None e = refl
      none (Some y) e = absurd (cc e)

  committing : is_committing_now (let w = works in let q = w.doing in q.now) ≡ true
  committing = (let w = works in let s = w.stands in sym (s.called (ap (λ (b : Branch). b.ended) w.branch ∙ unended))
      ∙ ap (λ (b : Act). was_called (committings Z.lines) b.id) w.same) ∙ called_so Z.lines right a began ∙ called

  machine_of : (m : Now) → is_committing_now m ≡ true → (k : Machine) × (m ≡ Committing k)
  machine_of Idle is = absurd (cc is)
  machine_of (Calling s) is = absurd (cc is)
  machine_of (Committing k) is = (k, refl)

  pub at_commit : IsAtCommit Z a.uid
  at_commit = record {
    node = n;
    parts = t;
    there = its_node.2;
    number = numbers;
    live = its_node.3;
    branch = home.0;
    found = home.1;
    unended = unended;
    doing = (let w = works in w.doing);
    machine = (machine_of (let w = works in let q = w.doing in q.now) committing).0;
    does = (let w = works in w.does);
    now = (machine_of (let w = works in let q = w.doing in q.now) committing).1;
  }
    where
      w : IsOfWorld hd Z
      w = reached_has hd (IsOfWorld hd) (worlds_kept hd) Z reached

      numbers : n.number ≡ (let u = a.uid in u.node)
      numbers = (let s = w.stands in s.numbers (let u = a.uid in u.node) n
          (ap (λ (M : Seen). M.nodes (let u = a.uid in u.node)) w.same ∙ its_node.2))

-- where a node stands, the rest is as it was
pub same_there : (M : Seen) (k : ℕ) (n : Node) (t : Parts) → M.nodes k ≡ Some n → n.number ≡ k → n.live ≡ Some t → up k n.disk t M ≡ M
same_there M k n t here number live = λ i. record M { nodes = λ m. each m (m == k) refl i }
  where
    its_node : record { number = k; disk = n.disk; live = Some t } ≡ n
    its_node = λ i. record { number = sym number i; disk = n.disk; live = sym live i }

    each : (m : ℕ) (b : Bool) → (m == k) ≡ b →
        (if (m == k) then Some (record { number = k; disk = n.disk; live = Some t }) else M.nodes m) ≡ M.nodes m
    each m true e = ap (λ (z : Bool). if z then Some (record { number = k; disk = n.disk; live = Some t }) else M.nodes m) e
        ∙ ap Some its_node
        ∙ sym here ∙ ap M.nodes (sym (eqb-true m k e))
    each m false e = ap (λ (z : Bool). if z then Some (record { number = k; disk = n.disk; live = Some t }) else M.nodes m) e
