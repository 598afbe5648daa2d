-- The reasons that a node finds are causes of the journal, one by one, from what the tree has on.
use Rattle.arj_law_parts.proofs.Words
use Words.{◌≡◌, ◌∙◌, ◌≤◌, ◌==◌, ◌&&◌, ◌||◌, not, ℕ, Bool, true, false, cond, List, [], ◌∷◌, refl, sym, ap, subst, arith, nat_tests}
use Words.{Option, Some, None, is_some, nat_le, nat_lt, list_all, and_parts, or_left, or_right, eqb-true, name, actor, Event, Header}
use Words.{Label, Kind, ObjectLine, Op, Node, Parts, World, Branch, Coord, Labelled, Input, at_place, branch_named, class_at, class_in}
use Words.{first_reason, has_many_objects, has_open_child, is_below_16, is_serial, kind_below, lacks_op, refusal_at, refusal_up}
use Words.{refused_by, sibling_waits, waits, waits_above, waits_below, node_of, refused_at, is_given, reasons}
use Words.event
use Words.input
use Words.kind
use Rattle.arj_law_runs.proofs.follow.Reasons.{joined, refused_by_any}
use Rattle.arj_law_runs.specs.follow.Refusals.{names_action}
use Rattle.arj_law_cause.specs.follow.causes.Refusals.{asks_object, doomed, is_met, not_waiting, too_many}
use Rattle.arj_model.specs.Last.{object_line}
use Rattle.arj_model.specs.Past.{Past}
use Rattle.arj_model.specs.Refusals as model
use Rattle.arj_protocol.specs.Step.{is_misplaced}
use Rattle.arj_protocol.specs.Tree.{has_many_actions, is_too_deep}
use Rattle.arj_protocol.specs.World as world
use Rattle.std.specs.Prelude.{is_none}

-- ---- lists of causes

-- each number is no greater than those behind it
abbrev pub AreRising : List (ℕ × Bool) → Type 0
AreRising [] = Unit {0}
AreRising (r ∷ rs) = (list_all (λ (q : ℕ × Bool). nat_le r.0 q.0) rs ≡ true) × AreRising rs

-- the first one is met
pub first_met : (c : ℕ) (cs : List (ℕ × Bool)) → first_reason cs ≡ Some c → is_met c cs ≡ true
first_met c [] is = let no_way : ◌≡◌ {A = Option ℕ} None (Some c) = is in absurd (cc no_way)
first_met c (r ∷ rs) is = by r.1 refl is (first_met c rs)
  where
    itself : (n : ℕ) → (n == n) ≡ true
    itself n = grind (arith, nat_tests)

    by : (b : Bool) → r.1 ≡ b → cond b (Some r.0) (first_reason rs) ≡ Some c → (first_reason rs ≡ Some c → is_met c rs ≡ true) →
        (((r.0 == c) && r.1) || is_met c rs) ≡ true
    by true e here rest =
        let same : r.0 ≡ c = (let k : ◌≡◌ {A = Option ℕ} (Some r.0) (Some c) = here in cc) in
        or_left ((r.0 == c) && r.1) (is_met c rs) ((λ i. (same i == c) && e i) ∙ (λ i. itself c i && true))
    by false e later rest = or_right ((r.0 == c) && r.1) (is_met c rs) (rest later)

-- one that is met stands behind no greater one
met_low : (m c : ℕ) (cs : List (ℕ × Bool)) → list_all (λ (q : ℕ × Bool). nat_le m q.0) cs ≡ true → is_met c cs ≡ true → m ≤ c
met_low m c [] all met = absurd (cc met)
met_low m c (r ∷ rs) all met = by ((r.0 == c) && r.1) refl met (λ more. met_low m c rs parts.1 more)
  where
    parts : (nat_le m r.0 ≡ true) × (list_all (λ (q : ℕ × Bool). nat_le m q.0) rs ≡ true)
    parts = and_parts (nat_le m r.0) (list_all (λ (q : ℕ × Bool). nat_le m q.0) rs) all

    one : (a b : ℕ) → nat_le m a ≡ true → a ≡ b → m ≤ b
    one a b le same = grind (arith, nat_tests, le, same)

    by : (x : Bool) → ((r.0 == c) && r.1) ≡ x → (x || is_met c rs) ≡ true → (is_met c rs ≡ true → m ≤ c) → m ≤ c
    by true e more rest = one r.0 c parts.0 (eqb-true r.0 c (and_parts (r.0 == c) r.1 e).0)
    by false e more rest = rest more

-- and then one no greater is the first
pub met_first : (c : ℕ) (cs : List (ℕ × Bool)) → AreRising cs → is_met c cs ≡ true → (d : ℕ) × (d ≤ c) × (first_reason cs ≡ Some d)
met_first c [] rising met = absurd (cc met)
met_first c (r ∷ rs) rising met = by r.1 refl (λ more. met_first c rs rising.1 more)
  where
    le : (a b : ℕ) → a ≡ b → a ≤ b
    le a b e = omega (arith, e)

    there : (x : Bool) → ((r.0 == c) && r.1) ≡ x → (x || is_met c rs) ≡ true → r.0 ≤ c
    there true e m = le r.0 c (eqb-true r.0 c (and_parts (r.0 == c) r.1 e).0)
    there false e m = met_low r.0 c rs rising.0 m

    and_none : (x : Bool) → (x && false) ≡ false
    and_none true = refl
    and_none false = refl

    by : (b : Bool) → r.1 ≡ b → (is_met c rs ≡ true → (d : ℕ) × (d ≤ c) × (first_reason rs ≡ Some d)) →
        (d : ℕ) × (d ≤ c) × (cond b (Some r.0) (first_reason rs) ≡ Some d)
    by true e rest = (r.0, there ((r.0 == c) && r.1) refl met, refl)
    by false e rest = rest (sym ((λ i. ((r.0 == c) && e i) || is_met c rs) ∙ (λ i. and_none (r.0 == c) i || is_met c rs)) ∙ met)

-- Two lists in which a cause of this number holds alike.
pub record IsSame (c : ℕ) (cs ds : List (ℕ × Bool)) : Type 0 where
  pub is : is_met c cs ≡ is_met c ds

module _ {c : ℕ} where
  pub all_same : {cs : List (ℕ × Bool)} → IsSame c cs cs
  all_same = record { is = refl }

  -- a number that isn't meant is passed over
  pub left : {n : ℕ} {x : Bool} {cs ds : List (ℕ × Bool)} → (n == c) ≡ false → IsSame c cs ds → IsSame c ((n, x) ∷ cs) ds
  left {n} {x} {cs} {ds} off rest = record { is = (λ i. (off i && x) || is_met c cs) ∙ rest.is }

  pub right : {n : ℕ} {x : Bool} {cs ds : List (ℕ × Bool)} → (n == c) ≡ false → IsSame c cs ds → IsSame c cs ((n, x) ∷ ds)
  right {n} {x} {cs} {ds} off rest = record { is = rest.is ∙ sym (λ i. (off i && x) || is_met c ds) }

  -- one that doesn't hold too
  none_right : {n : ℕ} {x : Bool} {cs ds : List (ℕ × Bool)} → x ≡ false → IsSame c cs ds → IsSame c cs ((n, x) ∷ ds)
  none_right {n} {x} {cs} {ds} off rest =
      record { is = rest.is ∙ sym ((λ i. ((n == c) && off i) || is_met c ds) ∙ (λ i. and_none (n == c) i || is_met c ds)) }
    where
      and_none : (y : Bool) → (y && false) ≡ false
      and_none true = refl
      and_none false = refl

  -- the same cause of both
  pub both : {n : ℕ} {x y : Bool} {cs ds : List (ℕ × Bool)} → x ≡ y → IsSame c cs ds → IsSame c ((n, x) ∷ cs) ((n, y) ∷ ds)
  both {n} {x} {y} {cs} {ds} one rest = record { is = λ i. ((n == c) && one i) || rest.is i }

module _ (c : ℕ) (late : nat_lt not_waiting c ≡ true) (undoomed : not (c == doomed) ≡ true) where
  early : (n : ℕ) → nat_le n not_waiting ≡ true → (n == c) ≡ false
  early n low = grind (arith, nat_tests, late, low)

  not_doomed : (doomed == c) ≡ false
  not_doomed = by (c == doomed) refl undoomed
    where
      turned : (m n : ℕ) → (m == n) ≡ false → (n == m) ≡ false
      turned m n is = by_both (n == m) refl
        where
          by_both : (b : Bool) → (n == m) ≡ b → b ≡ false
          by_both false e = refl
          by_both true e = absurd (cc (sym (one n m e) ∙ is))
            where
              one : (a b : ℕ) → (a == b) ≡ true → (b == a) ≡ true
              one a b e2 = grind (arith, nat_tests, e2)

      by : (b : Bool) → (c == doomed) ≡ b → not b ≡ true → (doomed == c) ≡ false
      by true is off = absurd (cc off)
      by false is off = turned c doomed is

-- ---- the header's objects

objects : (hd : Header) (x : ℕ) → is_none (object_line hd x) ≡ not (is_some (class_at x hd))
objects hd x = by (object_line hd x)
  where
    by : (o : Option ObjectLine) → is_none o ≡ not (is_some (class_in o))
    by None = refl
    by (Some o) = refl

operations : (hd : Header) (x : ℕ) (o : Op) → model.lacks_op (object_line hd x) o ≡ lacks_op o (class_at x hd)
operations hd x o = by (object_line hd x)
  where
    by : (z : Option ObjectLine) → model.lacks_op z o ≡ lacks_op o (class_in z)
    by None = refl
    by (Some z) = refl

-- ---- one action

-- what the journal has of the action under a label, in a node that has it as this branch
pub record Has (p : Past) (l : Label) (b : Branch) (c : Coord) : Type 0 where
  pub serial : model.is_serializing p.lines (name l) ≡ is_serial b.kind
  pub deep : model.is_deep p.lines (name l) ≡ is_too_deep b
  pub children : model.has_children p.lines (name l) ≡ has_open_child (actor b.path) c.tree
  pub many : model.has_all_actions p.lines (name l) ≡ has_many_actions b c.tree

-- Why nodes refuse an input about the action of a label: it has ended, or for one of the reasons behind that, which rise.
pub record Finds (i : Input) (l : Label) : Type 0 where
  pub reasons : Header → Branch → Coord → List (ℕ × Bool)
  pub finds : (h : Header) (c : Coord) → refusal_up h i c ≡ refused_by (λ b d. (6, is_some b.ended) ∷ reasons h b d) c (branch_named l c)
  pub rising : (h : Header) (b : Branch) (c : Coord) → AreRising ((6, is_some b.ended) ∷ reasons h b c)
  pub down : (h : Header) → refusal_at h i None ≡ Some 6

finds_begin : (l q : Label) (k : Kind) → Finds (input.Begin l k (Some q)) q
finds_begin l q k = record {
  reasons = λ h b c. (7, waits_above b c) ∷ (10, is_misplaced k b) ∷ (12, b.doomed) ∷ (15, is_below_16 k && is_too_deep b)
      ∷ (16, is_below_16 k && has_many_actions b c.tree) ∷ [];
  finds = λ h c. refl;
  rising = λ h b c. (refl, (refl, (refl, (refl, (refl, (refl, tt))))));
  down = λ h. refl;
}

pub finds_call : (l : Label) (x : ℕ) (o : Op) → Finds (input.Call l x o) l
finds_call l x o = record {
  reasons = λ h b c. (7, waits_above b c || waits_below b c) ∷ (11, is_serial b.kind) ∷ (12, b.doomed) ∷ (13, not (is_some (class_at x h)))
      ∷ (14, lacks_op o (class_at x h)) ∷ (16, has_many_objects b x c.tree) ∷ [];
  finds = λ h c. refl;
  rising = λ h b c. (refl, (refl, (refl, (refl, (refl, (refl, (refl, tt)))))));
  down = λ h. refl;
}

pub finds_include : (l : Label) (x s : ℕ) → Finds (input.Include l x s) l
finds_include l x s = record {
  reasons = λ h b c. (7, waits_above b c || waits_below b c) ∷ (11, is_serial b.kind) ∷ (12, b.doomed) ∷ (13, not (is_some (class_at x h)))
      ∷ (16, has_many_objects b x c.tree) ∷ [];
  finds = λ h c. refl;
  rising = λ h b c. (refl, (refl, (refl, (refl, (refl, (refl, tt))))));
  down = λ h. refl;
}

pub finds_commit : (l : Label) → Finds (input.Commit l) l
finds_commit l = record {
  reasons = λ h b c. (7, waits_above b c || waits_below b c || sibling_waits b c) ∷ (9, has_open_child (actor b.path) c.tree) ∷ [];
  finds = λ h c. refl;
  rising = λ h b c. (refl, (refl, (refl, tt)));
  down = λ h. refl;
}

pub finds_abort : (l : Label) → Finds (input.Abort l) l
finds_abort l = record {
  reasons = λ h b c. (7, waits_above b c || waits_below b c) ∷ [];
  finds = λ h c. refl;
  rising = λ h b c. (refl, (refl, tt));
  down = λ h. refl;
}

pub finds_giveup : (l : Label) → Finds (input.GiveUp l) l
finds_giveup l = record {
  reasons = λ h b c. (8, not (waits c (actor b.path))) ∷ [];
  finds = λ h c. refl;
  rising = λ h b c. (refl, (refl, tt));
  down = λ h. refl;
}

-- two answers, by their number
abbrev pub Agrees : ℕ → Bool → Option ℕ → Type 0
Agrees c met refused = (refused ≡ Some c → met ≡ true) × (met ≡ true → (d : ℕ) × (d ≤ c) × (refused ≡ Some d))

-- a lower number
lower : (c d : ℕ) (met : Bool) → nat_lt not_waiting c ≡ true → nat_le d not_waiting ≡ true → Agrees c met (Some d)
lower c d met late low = (
  λ is. let e : d ≡ c = (let k : ◌≡◌ {A = Option ℕ} (Some d) (Some c) = is in cc) in absurd (apart d c low late e),
  λ m. (d, below d c low late, refl),
)
  where
    apart : (m n : ℕ) → nat_le m not_waiting ≡ true → nat_lt not_waiting n ≡ true → m ≡ n → ⊥
    apart m n le lt is = grind (arith, nat_tests, le, lt, is)

    below : (m n : ℕ) → nat_le m not_waiting ≡ true → nat_lt not_waiting n ≡ true → m ≤ n
    below m n le lt = grind (arith, nat_tests, le, lt)

module _ (c : ℕ) (late : nat_lt not_waiting c ≡ true) where
  -- what a node answers, where the journal has the same of its action
  pub node_agrees : (hd : Header) (i : Input) (l : Label) (f : Finds i l) (met : Bool) (o : Option Parts) →
      ((t : Parts) (b : Branch) → o ≡ Some t → branch_named l t.coord ≡ Some b → met ≡ is_met c (f.reasons hd b t.coord)) →
      Agrees c met (refusal_at hd i o)
  node_agrees hd i l f met None tells = subst (Agrees c met) (sym (f.down hd)) (lower c 6 met late refl)
  node_agrees hd i l f met (Some t) tells = subst (Agrees c met) (sym (f.finds hd t.coord)) (by (branch_named l t.coord) refl)
    where
      open_one : (b : Branch) → met ≡ is_met c (f.reasons hd b t.coord) →
          Agrees c met (first_reason ((6, is_some b.ended) ∷ f.reasons hd b t.coord))
      open_one b is = (
        λ first. is ∙ sym (over b) ∙ first_met c ((6, is_some b.ended) ∷ f.reasons hd b t.coord) first,
        λ m. met_first c ((6, is_some b.ended) ∷ f.reasons hd b t.coord) (f.rising hd b t.coord)
            (over b ∙ sym is ∙ m),
      )
        where
          off : (n : ℕ) → nat_lt not_waiting n ≡ true → (6 == n) ≡ false
          off n lt = grind (arith, nat_tests, lt)

          over : (b : Branch) → is_met c ((6, is_some b.ended) ∷ f.reasons hd b t.coord) ≡ is_met c (f.reasons hd b t.coord)
          over b = λ i. (off c late i && is_some b.ended) || is_met c (f.reasons hd b t.coord)

      by : (o : Option Branch) → branch_named l t.coord ≡ o →
          Agrees c met (refused_by (λ b d. (6, is_some b.ended) ∷ f.reasons hd b d) t.coord o)
      by None is = lower c 6 met late refl
      by (Some b) is = open_one b (tells t b refl is)

  -- and what the world finds before it
  pub world_agrees : (met : Bool) (rs : List (ℕ × Bool)) (o : Option ℕ) → list_all (λ (q : ℕ × Bool). nat_le q.0 not_waiting) rs ≡ true →
      (first_reason rs ≡ None → Agrees c met o) → Agrees c met (joined (first_reason rs) o)
  world_agrees met rs o low rest = by (first_reason rs) refl
    where
      low_one : (cs : List (ℕ × Bool)) (d : ℕ) → list_all (λ (q : ℕ × Bool). nat_le q.0 not_waiting) cs ≡ true → first_reason cs ≡ Some d →
          nat_le d not_waiting ≡ true
      low_one [] d all is = let no_way : ◌≡◌ {A = Option ℕ} None (Some d) = is in absurd (cc no_way)
      low_one (r ∷ cs) d all is = by r.1 is (λ later. low_one cs d parts.1 later)
        where
          parts : (nat_le r.0 not_waiting ≡ true) × (list_all (λ (q : ℕ × Bool). nat_le q.0 not_waiting) cs ≡ true)
          parts = and_parts (nat_le r.0 not_waiting) (list_all (λ (q : ℕ × Bool). nat_le q.0 not_waiting) cs) all

          by : (x : Bool) → cond x (Some r.0) (first_reason cs) ≡ Some d → (first_reason cs ≡ Some d → nat_le d not_waiting ≡ true) →
              nat_le d not_waiting ≡ true
          by true here rest = let e : r.0 ≡ d = (let k : ◌≡◌ {A = Option ℕ} (Some r.0) (Some d) = here in cc) in
              subst (λ j. nat_le j not_waiting ≡ true) e parts.0
          by false later rest = rest later

      by : (f : Option ℕ) → first_reason rs ≡ f → Agrees c met (joined f o)
      by None is = rest is
      by (Some d) is = lower c d met late (low_one rs d low is)

-- ---- events

module _ (hd : Header) (p : Past) (t : World) (header : t.header ≡ hd) (has : (l : Label) (n : Node) (v : Parts) (b : Branch) →
    is_given l t ≡ true → at_place (node_of l t) t.nodes ≡ Some n → n.live ≡ Some v → branch_named l v.coord ≡ Some b → Has p l b v.coord)
    (below : (l : Label) (n : Node) (v : Parts) (b : Branch) → is_given l t ≡ true → at_place (node_of l t) t.nodes ≡ Some n →
    n.live ≡ Some v → branch_named l v.coord ≡ Some b → is_misplaced (kind_below l t) b ≡ false)
    (there : (l : Label) → is_given l t ≡ true → (n : Node) × (at_place (node_of l t) t.nodes ≡ Some n)) where
  -- the node that an event asks about a label
  asked : (c : ℕ) (late : nat_lt not_waiting c ≡ true) (l : Label) (i : Input) (f : Finds i l) (cs : List (ℕ × Bool)) →
      is_given l t ≡ true →
      ((n : Node) (v : Parts) (b : Branch) → at_place (node_of l t) t.nodes ≡ Some n → n.live ≡ Some v → branch_named l v.coord ≡ Some b →
      IsSame c cs (f.reasons t.header b v.coord)) → Agrees c (is_met c cs) (refused_at i t (at_place (node_of l t) t.nodes))
  asked c late l i f cs given tells =
      let n = there l given in
      subst (λ o. Agrees c (is_met c cs) (refused_at i t o)) (sym n.1)
      (node_agrees c late t.header i l f (is_met c cs) (let x = n.0 in x.live) (λ v b live named. (tells n.0 v b n.1 live named).is))

  -- a label that isn't known, or was given before, is refused by the world
  is_there : (l : Label) → first_reason ((5, not (world.is_known l t)) ∷ (6, world.was_given l t) ∷ []) ≡ None → is_given l t ≡ true
  is_there l free = by (world.was_given l t) (is_given l t) free
    where
      by : (g d : Bool) → first_reason ((5, not (g || d)) ∷ (6, g) ∷ []) ≡ None → d ≡ true
      by true d is = let no_way : ◌≡◌ {A = Option ℕ} (Some 6) None = is in absurd (cc no_way)
      by false true is = refl
      by false false is = let no_way : ◌≡◌ {A = Option ℕ} (Some 5) None = is in absurd (cc no_way)

  behind : (m : ℕ) (x : Bool) (rs : List (ℕ × Bool)) → first_reason ((m, x) ∷ rs) ≡ None → first_reason rs ≡ None
  behind m true rs is = let no_way : ◌≡◌ {A = Option ℕ} (Some m) None = is in absurd (cc no_way)
  behind m false rs is = is

  module _ (c : ℕ) (late : nat_lt not_waiting c ≡ true) (undoomed : not (c == doomed) ≡ true) where
    e : (n : ℕ) → nat_le n not_waiting ≡ true → (n == c) ≡ false
    e n low = early c late undoomed n low

    class_is : (x : ℕ) → is_none (object_line hd x) ≡ not (is_some (class_at x t.header))
    class_is x = ap (λ h. is_none (object_line h x)) (sym header) ∙ objects t.header x

    op_is : (x : ℕ) (o : Op) → model.lacks_op (object_line hd x) o ≡ lacks_op o (class_at x t.header)
    op_is x o = ap (λ h. model.lacks_op (object_line h x) o) (sym header) ∙ operations t.header x o

    below_16 : (q : Label) (x : Bool) → (is_below_16 (kind_below q t) && x) ≡ x
    below_16 q x = by (world.labelled q t)
      where
        by_serial : (s : Bool) → (is_below_16 (cond s kind.Constituent kind.Nested) && x) ≡ x
        by_serial true = refl
        by_serial false = refl

        by : (o : Option Labelled) → (is_below_16 (world.kind_in o) && x) ≡ x
        by None = refl
        by (Some g) = by_serial g.serial

    no_more : (x : Bool) → (not x ≡ true) → x ≡ false
    no_more true is = absurd (cc is)
    no_more false is = refl

    turned : (m n : ℕ) → (m == n) ≡ false → (n == m) ≡ false
    turned m n is = by (n == m) refl
      where
        by : (b : Bool) → (n == m) ≡ b → b ≡ false
        by false f = refl
        by true f = absurd (cc (sym (one n m f) ∙ is))
          where
            one : (a b : ℕ) → (a == b) ≡ true → (b == a) ≡ true
            one a b f2 = grind (arith, nat_tests, f2)

    pub agrees : (ev : Event) → names_action ev ≡ true → not (asks_object ev && (c == too_many)) ≡ true →
        Agrees c (is_met c (model.causes hd p ev)) (refused_by_any ev t)
    unfolding finds_begin finds_call finds_include finds_commit finds_abort finds_giveup
    agrees (event.BeginIn l q) names few =
        let ev = event.BeginIn l q in
        let i = input.Begin l (kind_below q t) (Some q) in
        world_agrees c late (is_met c (model.causes hd p ev)) (reasons ev t) (refused_at i t (at_place (node_of q t) t.nodes)) refl (λ free.
        let given = is_there q (behind 4 (world.is_known l t) ((5, not (world.is_known q t)) ∷ (6, world.was_given q t) ∷ []) free) in
        asked c late q i (finds_begin l q (kind_below q t)) (model.causes hd p ev) given (λ n v b at live named.
        let s = has q n v b given at live named in
        left (e 4 refl) (left (e 5 refl) (left (e 6 refl) (left (e 7 refl) (right (e 7 refl)
        (none_right (below q n v b given at live named) (right (not_doomed c late undoomed)
        (both (s.deep ∙ sym (below_16 q (is_too_deep b)))
        (both (s.many ∙ sym (below_16 q (has_many_actions b v.coord.tree))) all_same))))))))))
    agrees (event.Top l q) names few =
        let ev = event.Top l q in
        let i = input.Begin l kind.Independent (Some q) in
        world_agrees c late (is_met c (model.causes hd p ev)) (reasons ev t) (refused_at i t (at_place (node_of q t) t.nodes)) refl (λ free.
        let given = is_there q (behind 4 (world.is_known l t) ((5, not (world.is_known q t)) ∷ (6, world.was_given q t) ∷ []) free) in
        asked c late q i (finds_begin l q kind.Independent) (model.causes hd p ev) given (λ n v b at live named.
        let s = has q n v b given at live named in
        left (e 4 refl) (left (e 5 refl) (left (e 6 refl) (left (e 7 refl) (right (e 7 refl) (both s.serial
        (right (not_doomed c late undoomed) (none_right refl (none_right refl all_same))))))))))
    agrees (event.Call l x o) names few =
        let ev = event.Call l x o in
        let i = input.Call l x o in
        let off = turned c too_many (no_more (c == too_many) few) in
        world_agrees c late (is_met c (model.causes hd p ev)) (reasons ev t) (refused_at i t (at_place (node_of l t) t.nodes)) refl (λ free.
        let given = is_there l free in
        asked c late l i (finds_call l x o) (model.causes hd p ev) given (λ n v b at live named.
        let s = has l n v b given at live named in
        left (e 5 refl) (left (e 6 refl) (left (e 7 refl) (right (e 7 refl) (both s.serial (right (not_doomed c late undoomed)
        (both (class_is x) (both (op_is x o) (left off (right off all_same)))))))))))
    agrees (event.Include l x m) names few =
        let ev = event.Include l x m in
        let i = input.Include l x m in
        let off = turned c too_many (no_more (c == too_many) few) in
        world_agrees c late (is_met c (model.causes hd p ev)) (reasons ev t) (refused_at i t (at_place (node_of l t) t.nodes)) refl (λ free.
        let given = is_there l (behind 1 (not (world.is_node m t)) ((5, not (world.is_known l t)) ∷ (6, world.was_given l t) ∷ []) free) in
        asked c late l i (finds_include l x m) (model.causes hd p ev) given (λ n v b at live named.
        let s = has l n v b given at live named in
        left (e 1 refl) (left (e 5 refl) (left (e 6 refl) (left (e 7 refl) (right (e 7 refl) (both s.serial
        (right (not_doomed c late undoomed)
        (both (class_is x) (left off (right off all_same)))))))))))
    agrees (event.Commit l) names few =
        let ev = event.Commit l in
        let i = input.Commit l in
        world_agrees c late (is_met c (model.causes hd p ev)) (reasons ev t) (refused_at i t (at_place (node_of l t) t.nodes)) refl (λ free.
        let given = is_there l free in
        asked c late l i (finds_commit l) (model.causes hd p ev) given (λ n v b at live named.
        let s = has l n v b given at live named in
        left (e 5 refl) (left (e 6 refl) (left (e 7 refl) (right (e 7 refl) (both s.children all_same))))))
    agrees (event.Abort l) names few =
        let ev = event.Abort l in
        let i = input.Abort l in
        world_agrees c late (is_met c (model.causes hd p ev)) (reasons ev t) (refused_at i t (at_place (node_of l t) t.nodes)) refl (λ free.
        let given = is_there l free in
        asked c late l i (finds_abort l) (model.causes hd p ev) given (λ n v b at live named.
        left (e 5 refl) (left (e 6 refl) (left (e 7 refl) (right (e 7 refl) all_same)))))
    agrees (event.GiveUp l) names few =
        let ev = event.GiveUp l in
        let i = input.GiveUp l in
        world_agrees c late (is_met c (model.causes hd p ev)) (reasons ev t) (refused_at i t (at_place (node_of l t) t.nodes)) refl (λ free.
        let given = is_there l free in
        asked c late l i (finds_giveup l) (model.causes hd p ev) given (λ n v b at live named.
        left (e 5 refl) (left (e 6 refl) (left (e 8 refl) (right (e 8 refl) all_same)))))
    agrees ev names few = absurd (cc names)
