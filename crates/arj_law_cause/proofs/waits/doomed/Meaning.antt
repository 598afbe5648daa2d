-- A branch that is doomed at its coordinator is that of an action which the journal dooms; what is refused with 12 asks for such a branch.
use Rattle.arj_law_parts.proofs.Words
use Words.{◌≡◌, ◌∙◌, ◌&&◌, ◌||◌, ◌==◌, not, ℕ, Bool, true, false, cond, List, [], ◌∷◌, ◌++◌, list_all, and_parts, Option, Some, None, refl}
use Words.{sym, ap, subst, arith}
use Words.{is_some, name, is_serial, Event, Header, Label, Branch, Coord, Input, Node, Parts, World, at_place, branch_named, first_reason}
use Words.{kind_below}
use Words.{node_of, reasons, refused_at, refused_by, refusal_up, call_reasons, include_reasons, waits_above, waits_below, class_at}
use Words.{lacks_op}
use Words.{has_many_objects, is_below_16, see}
use Words.body
use Words.event
use Words.input
use Words.kind
use Rattle.arj_law_parts.specs.moves.Moments.{History}
use Rattle.arj_law_parts.specs.steps.Writes.{node_refusal}
use Rattle.arj_law_runs.proofs.Terms.{Act, acts, act_in}
use Rattle.arj_law_runs.proofs.follow.Reasons.{joined, refused_by_any}
use Rattle.arj_law_runs.proofs.journal.{Beginning.named_at, Closed.one_act}
use Rattle.arj_promise.specs.Runs.{HeaderFits}
use Rattle.arj_model.specs.CauseSpans.{is_doomed}
use Rattle.arj_model.specs.Follows.{label_doomed}
use Rattle.arj_model.specs.Past.{Past}
use Rattle.arj_protocol.specs.Step.{begin_reasons, is_misplaced, refusal_at}
use Rattle.arj_protocol.specs.Tree.{has_many_actions, is_too_deep}
use Rattle.arj_law_cause.proofs.waits.waiting.Acting as acting
use Rattle.arj_law_cause.proofs.waits.doomed.Lost.{IsDoomedSo, lost_is}
use Rattle.arj_law_cause.proofs.waits.doomed.Standing.{Stands}
use Rattle.arj_law_cause.specs.waits.doomed.Dooms.{IsToldDoomed}

-- ---- doomed branches

module _ (hd : Header) (form : HeaderFits hd) (g : History) (p : Past) (w : World) (s : Stands hd form g p w) (on : w.over ≡ false) where
  pub told_doomed : (k : ℕ) (n : Node) (t : Parts) → at_place k w.nodes ≡ Some n → n.live ≡ Some t → (l : Label) (b : Branch) →
      branch_named l t.coord ≡ Some b → b.doomed ≡ true → IsToldDoomed p (name l)
  told_doomed k n t there live l b named doomed =
      let h = s.base.base.halts in
      let up = acting.up (see h.sent w) h.holds k n t there live in
      let nm = named_at t.coord (let x = up.tops in x.names) l b named in
      let f = acting.stands (see h.sent w) h.holds k n t there live nm.act nm.doing nm.does in
      let x : IsDoomedSo p.accepted p.lines nm.act = (let z = s.ways on in z.trees k n t there live nm.act b nm.found doomed) in
      let lines : p.lines ≡ w.lines = s.base.base.base.lines in
      let same : f.act ≡ x.act = one_act (acts w.lines) (acting.distinct (see h.sent w) h.holds k n t there live) f.act x.act f.began
      (subst (λ ls. Words.In x.act (acts ls)) lines x.began) (f.uid ∙ sym x.uid) in
      let label : (let a = x.act in a.label) ≡ name l = ap (λ (a : Act). a.label) (sym same) ∙ f.label ∙ nm.name_is in
      let found : act_in (acts p.lines) (name l) ≡ Some x.act = (λ i. act_in (acts (lines i)) (sym nm.name_is i)) ∙ f.named
      ∙ ap Some same in
      record {
        act = x.act;
        named = found;
        plain = x.plain;
        lost = subst (λ m. is_doomed p.accepted p.lines m ≡ true) label
            (lost_is p.accepted p.lines x.act (ap (act_in (acts p.lines)) label ∙ found) x.lost);
      }

-- ---- refusals

-- no reason has this number
abbrev AreOther : List (ℕ × Bool) → Type 0
AreOther rs = list_all (λ (r : ℕ × Bool). not (r.0 == 12)) rs ≡ true

not_among : (rs : List (ℕ × Bool)) → AreOther rs → first_reason rs ≡ Some 12 → ⊥
not_among [] all is = cc is
not_among (r ∷ rs) all is = by r.1 is (not_among rs parts.1)
  where
    parts : (not (r.0 == 12) ≡ true) × AreOther rs
    parts = and_parts (not (r.0 == 12)) (list_all (λ (q : ℕ × Bool). not (q.0 == 12)) rs) all

    apart : (n : ℕ) → not (n == 12) ≡ true → ◌≡◌ {A = Option ℕ} (Some n) (Some 12) → ⊥
    apart n isnt same =
        let one : n ≡ 12 = cc same in
        let no_way : not (12 == 12) ≡ true = subst (λ j. not (j == 12) ≡ true) one isnt in absurd (cc no_way)

    by : (b : Bool) → cond b (Some r.0) (first_reason rs) ≡ Some 12 → (first_reason rs ≡ Some 12 → ⊥) → ⊥
    by true is rest = apart r.0 parts.0 is
    by false is rest = rest is

-- behind others it is this one
is_twelfth : (rs : List (ℕ × Bool)) (x : Bool) (more : List (ℕ × Bool)) → AreOther rs → AreOther more →
    first_reason (rs ++ (12, x) ∷ more) ≡ Some 12 →
    x ≡ true
is_twelfth [] true more all later is = refl
is_twelfth [] false more all later is = absurd (not_among more later is)
is_twelfth (r ∷ rs) x more all later is = by r.1 is (is_twelfth rs x more parts.1 later)
  where
    parts : (not (r.0 == 12) ≡ true) × AreOther rs
    parts = and_parts (not (r.0 == 12)) (list_all (λ (q : ℕ × Bool). not (q.0 == 12)) rs) all

    apart : (n : ℕ) → not (n == 12) ≡ true → ◌≡◌ {A = Option ℕ} (Some n) (Some 12) → ⊥
    apart n isnt same =
        let one : n ≡ 12 = cc same in
        let no_way : not (12 == 12) ≡ true = subst (λ j. not (j == 12) ≡ true) one isnt in absurd (cc no_way)

    by : (b : Bool) → cond b (Some r.0) (first_reason (rs ++ (12, x) ∷ more)) ≡ Some 12 →
        (first_reason (rs ++ (12, x) ∷ more) ≡ Some 12 → x ≡ true) → x ≡ true
    by true is rest = absurd (apart r.0 parts.0 is)
    by false is rest = rest is

-- the node refuses, where the world doesn't with this number
by_node : (rs : List (ℕ × Bool)) (o : Option ℕ) → AreOther rs → joined (first_reason rs) o ≡ Some 12 → o ≡ Some 12
by_node rs o all is = by (first_reason rs) refl is
  where
    by : (f : Option ℕ) → first_reason rs ≡ f → joined f o ≡ Some 12 → o ≡ Some 12
    by None none is = is
    by (Some c) first is = absurd (not_among rs all (first ∙ is))

-- a node that is up has such a branch
pub record HasDoomed (w : World) (l : Label) : Type 0 where
  pub number : ℕ
  pub node : Node
  pub parts : Parts
  pub branch : Branch
  pub there : at_place number w.nodes ≡ Some node
  pub live : node.live ≡ Some parts
  pub named : branch_named l parts.coord ≡ Some branch
  pub doomed : branch.doomed ≡ true

-- an input about an action, which others refuse with other numbers
module _ (w : World) (k : ℕ) (i : Input) (down : refusal_at w.header i None ≡ Some 6) where
  up_node : {B : Type 0} →
      ((n : Node) (t : Parts) → at_place k w.nodes ≡ Some n → n.live ≡ Some t → refusal_up w.header i t.coord ≡ Some 12 → B) →
      refused_at i w (at_place k w.nodes) ≡ Some 12 → B
  up_node {B} its is = by (at_place k w.nodes) refl is
    where
      live_at : (n : Node) → at_place k w.nodes ≡ Some n → (o : Option Parts) → n.live ≡ o → refusal_at w.header i o ≡ Some 12 → B
      live_at n there None live is = absurd (six (sym down ∙ is))
        where
          six : ◌≡◌ {A = Option ℕ} (Some 6) (Some 12) → ⊥
          six same = let one : ◌≡◌ {A = ℕ} 6 12 = cc same in omega (arith, one)
      live_at n there (Some t) live is = its n t there live is

      by : (o : Option Node) → at_place k w.nodes ≡ o → refused_at i w o ≡ Some 12 → B
      by None there is = absurd (cc is)
      by (Some n) there is = live_at n there n.live refl is

  named_doomed : (l : Label) (rs : Branch → Coord → List (ℕ × Bool)) →
      ((c : Coord) → refusal_up w.header i c ≡ refused_by rs c (branch_named l c)) →
      ((b : Branch) (c : Coord) → first_reason (rs b c) ≡ Some 12 → b.doomed ≡ true) → refused_at i w (at_place k w.nodes) ≡ Some 12 →
      HasDoomed w l
  named_doomed l rs same its is = up_node
      (λ n t there live refused. by n t there live (branch_named l t.coord) refl (sym (same t.coord) ∙ refused)) is
    where
      by : (n : Node) (t : Parts) → at_place k w.nodes ≡ Some n → n.live ≡ Some t → (o : Option Branch) → branch_named l t.coord ≡ o →
          refused_by rs t.coord o ≡ Some 12 → HasDoomed w l
      by n t there live None named is = let one : ◌≡◌ {A = ℕ} 6 12 = cc is in absurd (omega (arith, one))
      by n t there live (Some b) named is = record {
        number = k;
        node = n;
        parts = t;
        branch = b;
        there = there;
        live = live;
        named = named;
        doomed = its b t.coord is;
      }

  -- who is refused otherwise
  never_twelve : (l : Label) (rs : Branch → Coord → List (ℕ × Bool)) →
      ((c : Coord) → refusal_up w.header i c ≡ refused_by rs c (branch_named l c)) →
      ((b : Branch) (c : Coord) → AreOther (rs b c)) → refused_at i w (at_place k w.nodes) ≡ Some 12 → ⊥
  never_twelve l rs same others is = up_node (λ n t there live refused. by t (branch_named l t.coord) (sym (same t.coord) ∙ refused)) is
    where
      by : (t : Parts) (o : Option Branch) → refused_by rs t.coord o ≡ Some 12 → ⊥
      by t None is = let one : ◌≡◌ {A = ℕ} 6 12 = cc is in omega (arith, one)
      by t (Some b) is = not_among (rs b t.coord) (others b t.coord) is

none_twelve : {B : Type 0} → ◌≡◌ {A = Option ℕ} None (Some 12) → B
none_twelve is = absurd (cc is)

-- what is refused with 12 is about such a branch
pub twelve_doomed : (e : Event) (w : World) → refused_by_any e w ≡ Some 12 → (l : Label) × (label_doomed e ≡ Some (name l)) × HasDoomed w l
twelve_doomed (event.BeginIn l p) w is = (
  p,
  refl,
  named_doomed w (node_of p w) (input.Begin l (kind_below p w) (Some p)) refl p (begin_reasons (kind_below p w)) (λ c. refl)
      (λ b c first. is_twelfth ((6, is_some b.ended) ∷ (7, waits_above b c) ∷ (10, is_misplaced (kind_below p w) b) ∷ []) b.doomed
      ((15, is_below_16 (kind_below p w) && is_too_deep b) ∷
      (16, is_below_16 (kind_below p w) && has_many_actions b c.tree) ∷ []) refl refl first)
      (by_node (reasons (event.BeginIn l p) w) (node_refusal (event.BeginIn l p) w) refl is),
)
twelve_doomed (event.Top l p) w is = (
  p,
  refl,
  named_doomed w (node_of p w) (input.Begin l kind.Independent (Some p)) refl p (begin_reasons kind.Independent) (λ c. refl)
      (λ b c first. is_twelfth ((6, is_some b.ended) ∷ (7, waits_above b c) ∷ (10, is_misplaced kind.Independent b) ∷ []) b.doomed
      ((15, is_below_16 kind.Independent && is_too_deep b) ∷
      (16, is_below_16 kind.Independent && has_many_actions b c.tree) ∷ []) refl refl first)
      (by_node (reasons (event.Top l p) w) (node_refusal (event.Top l p) w) refl is),
)
twelve_doomed (event.Call l x o) w is = (
  l,
  refl,
  named_doomed w (node_of l w) (input.Call l x o) refl l (call_reasons w.header x o) (λ c. refl)
      (λ b c first. is_twelfth ((6, is_some b.ended) ∷ (7, waits_above b c || waits_below b c) ∷ (11, is_serial b.kind) ∷ []) b.doomed
      ((13, not (is_some (class_at x w.header))) ∷ (14, lacks_op o (class_at x w.header)) ∷
      (16, has_many_objects b x c.tree) ∷ []) refl refl first)
      (by_node (reasons (event.Call l x o) w) (node_refusal (event.Call l x o) w) refl is),
)
twelve_doomed (event.Include l x n) w is = (
  l,
  refl,
  named_doomed w (node_of l w) (input.Include l x n) refl l (include_reasons w.header x) (λ c. refl)
      (λ b c first. is_twelfth ((6, is_some b.ended) ∷ (7, waits_above b c || waits_below b c) ∷ (11, is_serial b.kind) ∷ []) b.doomed
      ((13, not (is_some (class_at x w.header))) ∷ (16, has_many_objects b x c.tree) ∷ []) refl refl first)
      (by_node (reasons (event.Include l x n) w) (node_refusal (event.Include l x n) w) refl is),
)
twelve_doomed (event.Commit l) w is = absurd
    (never_twelve w (node_of l w) (input.Commit l) refl l Words.commit_reasons (λ c. refl) (λ b c. refl)
    (by_node (reasons (event.Commit l) w) (node_refusal (event.Commit l) w) refl is))
twelve_doomed (event.Abort l) w is = absurd
    (never_twelve w (node_of l w) (input.Abort l) refl l Words.abort_reasons (λ c. refl) (λ b c. refl)
    (by_node (reasons (event.Abort l) w) (node_refusal (event.Abort l) w) refl is))
twelve_doomed (event.GiveUp l) w is = absurd
    (never_twelve w (node_of l w) (input.GiveUp l) refl l Words.giveup_reasons (λ c. refl) (λ b c. refl)
    (by_node (reasons (event.GiveUp l) w) (node_refusal (event.GiveUp l) w) refl is))
twelve_doomed (event.Begin l n) w is = absurd (up_node w n (input.Begin l kind.Top None) refl (λ m t there live refused. cc refused)
    (by_node (reasons (event.Begin l n) w) (node_refusal (event.Begin l n) w) refl is))
twelve_doomed (event.Serial l n) w is = absurd (up_node w n (input.Begin l kind.Serial None) refl (λ m t there live refused. cc refused)
    (by_node (reasons (event.Serial l n) w) (node_refusal (event.Serial l n) w) refl is))
twelve_doomed (event.Deliver k) w is = none_twelve (by_node (reasons (event.Deliver k) w) (node_refusal (event.Deliver k) w) refl is)
twelve_doomed (event.Lose k) w is = none_twelve (by_node (reasons (event.Lose k) w) (node_refusal (event.Lose k) w) refl is)
twelve_doomed (event.Tick n) w is = none_twelve (by_node (reasons (event.Tick n) w) (node_refusal (event.Tick n) w) refl is)
twelve_doomed event.Settle w is = none_twelve (by_node (reasons event.Settle w) (node_refusal event.Settle w) refl is)
twelve_doomed event.Quiesce w is = none_twelve (by_node (reasons event.Quiesce w) (node_refusal event.Quiesce w) refl is)
twelve_doomed (event.Crash n) w is = none_twelve (by_node (reasons (event.Crash n) w) (node_refusal (event.Crash n) w) refl is)
twelve_doomed (event.Restart n) w is = none_twelve (by_node (reasons (event.Restart n) w) (node_refusal (event.Restart n) w) refl is)
twelve_doomed (event.Stop n c how) w is = none_twelve
    (by_node (reasons (event.Stop n c how) w) (node_refusal (event.Stop n c how) w) refl is)
twelve_doomed (event.Junk n bytes) w is = none_twelve
    (by_node (reasons (event.Junk n bytes) w) (node_refusal (event.Junk n bytes) w) refl is)
twelve_doomed (event.Show x) w is = none_twelve (by_node (reasons (event.Show x) w) (node_refusal (event.Show x) w) refl is)
