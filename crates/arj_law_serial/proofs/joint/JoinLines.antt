-- What survives in a top whose commit was called stays as it is, line by line.
use Rattle.arj_law_parts.proofs.Words
use Words.{◌≡◌, ◌≢◌, ◌||◌, ◌==◌, ◌&&◌, ◌∙◌, ℕ, Bool, true, false, length, List, [], ◌∷◌, Option, Some, None, ap, inl, inr, refl, subst, sym}
use Words.{⊎_elim, AllByRecursion, list_all, list_any, uid_cases, uid_is, uid_same, is_on, uid_eq, In, in_from, in_to, Machine, Used}
use Words.{changed_of, plan_of, Do, Effect, Say, Send, has, Body, Label, Line, ObjectState, Uid, name}
use Words.body
use Words.kind
use Rattle.arj_law_serial.proofs.Terms
use Terms.{option_map, Act, act_in, chain_in, path, top_in, uids, plan_at, plan_by, used_at, Access, Book, book_from, is_top, turned}
use Terms.{with_access, with_named, AreLined, after, AreRight, Right, named_is, still_named, Stands, one_act, stands_turn, AreSound}
use Terms.{named_in, on_path, path_old, AreRising, FitsIncludes, has_included, includes_in, is_of_store, lasts_in}
use Rattle.arj_law_runs.proofs.journal.Books.{later_turn, never, on_other}
use Rattle.arj_law_runs.specs.journal.{Book.is_over, Right.IsOpenSo}
use Rattle.arj_law_serial.proofs.{joint.JoinPaths.chain_above, order.Paths.chain_on, order.Paths.top_on, order.Paths.well}
use Rattle.arj_law_serial.specs.joint.Joins.{acts_of}

-- ---- lists and tests

pub any_same : {A : Type 0} (p q : A → Bool) (xs : List A) → ((x : A) → In x xs → p x ≡ q x) → list_any p xs ≡ list_any q xs
any_same p q [] each = refl
any_same p q (x ∷ xs) each = λ i. each x (inl refl) i || any_same p q xs (λ y j. each y (inr j)) i

pub all_same : {A : Type 0} (p q : A → Bool) (xs : List A) → ((x : A) → In x xs → p x ≡ q x) → list_all p xs ≡ list_all q xs
all_same p q [] each = refl
all_same p q (x ∷ xs) each = λ i. each x (inl refl) i && all_same p q xs (λ y j. each y (inr j)) i

pub on_of : (xs : List Act) (x : Act) → In x xs → is_on (uids xs) x.uid ≡ true
on_of [] x i = absurd i
on_of (y ∷ ys) x (inl same) = ap (λ b. b || is_on (uids ys) x.uid) (ap (λ (z : Act). uid_eq z.uid x.uid) same ∙ uid_same x.uid)
on_of (y ∷ ys) x (inr i) = by (uid_eq y.uid x.uid) (on_of ys x i)
  where
    by : (b : Bool) → is_on (uids ys) x.uid ≡ true → (b || is_on (uids ys) x.uid) ≡ true
    by true ih = refl
    by false ih = ih

and_none : (b : Bool) → (b && false) ≡ false
and_none true = refl
and_none false = refl

-- a call is no include
pub no_store : (B : Book) (u : Uid) (x s : ℕ) (c : Act) (y : ℕ) → includes_in B u x s (record { act = c; x = y; store = None }) ≡ false
no_store B u x s c y =
    let a : Access = record { act = c; x = y; store = None } in
    ap (λ b. lasts_in (is_on B.committed) u (acts_of B a) (top_in (acts_of B a)) && b) (and_none (y == x))
    ∙ and_none (lasts_in (is_on B.committed) u (acts_of B a) (top_in (acts_of B a)))

-- ---- one line

module _ (B : Book) (stands : Stands B) (u : Uid) (called : is_on B.called u ≡ true) where
  sound : AreSound B.acts
  sound = stands.sound

  -- the top of a path is this one: it is on that path
  top_there : (l : List ℕ) (t : Act) → top_in (path B.acts l) ≡ Some t → uid_eq t.uid u ≡ true → is_on (uids (path B.acts l)) u ≡ true
  top_there l t is same =
      subst (λ w. is_on (uids (path B.acts l)) w ≡ true) (uid_is t.uid u same) (on_of (path B.acts l) t (top_on (path B.acts l) t is))

  -- an open action whose commit isn't called isn't below it
  none_open : (l : Label) (c : Act) → act_in B.acts (name l) ≡ Some c → IsOpenSo false B l →
      lasts_in (is_on B.committed) u (path B.acts c.label) (top_in (path B.acts c.label)) ≡ false
  none_open l c named (a, opened, quiet) = by (top_in (path B.acts c.label)) refl
    where
      act : a ≡ c
      act = let e : ◌≡◌ {A = Option Act} (Some a) (Some c) = sym opened.named ∙ named in cc e

      by : (o : Option Act) → top_in (path B.acts c.label) ≡ o → lasts_in (is_on B.committed) u (path B.acts c.label) o ≡ false
      by None is = refl
      by (Some t) is = one (uid_eq t.uid u) refl
        where
          one : (b : Bool) → uid_eq t.uid u ≡ b →
              (b && list_all (λ (y : Act). is_on B.committed y.uid) (chain_in (path B.acts c.label))) ≡ false
          one false off = refl
          one true same = ⊎_elim
              (λ (here : c.uid ≡ u).
              absurd (never (ap (is_on B.called) here ∙ called) (ap (λ (y : Act). is_on B.called y.uid) (sym act) ∙ quiet)))
              (λ other. let closes = stands.closes in absurd (never (closes.closed u called c (in_to c B.acts (named_in B.acts (name l) c
              named)) (top_there c.label t is same) other) (ap (λ (y : Act). is_over B y.uid) (sym act) ∙ opened.unended)))
              (uid_cases c.uid u)

  -- who commits isn't below it
  none_commits : (l : Label) → Right B (body.Committed l) → (m : List ℕ) (t : Act) → top_in (path B.acts m) ≡ Some t → uid_eq t.uid u
      ≡ true → (b : Act) → In b (chain_in (path B.acts m)) → is_on (with_named B.acts l B.committed) b.uid ≡ is_on B.committed b.uid
  none_commits l (c, opened, plain, calls) m t is same b below =
      ap (λ us. is_on us b.uid) (named_is B.acts l B.committed c opened.named) ∙ on_other c.uid b.uid B.committed apart
    where
      there : In b B.acts
      there = on_path B.acts m b (chain_on (path B.acts m) b below)

      over_it : is_on (uids (path B.acts b.label)) u ≡ true
      over_it = top_there b.label t (chain_above B.acts sound.distinct m t b is below) same

      nested : b.kind ≡ kind.Nested
      nested = let w = well B.acts sound.formed m in let shape = w.0 in each (chain_in (path B.acts m)) shape.below below
        where
          each : (xs : List Act) → AllByRecursion (λ (y : Act). y.kind ≡ kind.Nested) xs → In b xs → b.kind ≡ kind.Nested
          each [] all i = absurd i
          each (x ∷ xs) all (inl e) = ap (λ (y : Act). y.kind) (sym e) ∙ all.0
          each (x ∷ xs) all (inr i) = each xs all.1 i

      other : b.uid ≡ u → ⊥
      other e =
          let one = one_act B.acts sound.distinct b t there (on_path B.acts m t (top_on (path B.acts m) t is))
          (e ∙ sym (uid_is t.uid u same)) in
          let w = well B.acts sound.formed m in
          let shape = w.0 in
          never (shape.tops t is) (ap (λ (y : Act). is_top y.kind) (sym one) ∙ ap is_top nested)

      apart : c.uid ≢ b.uid
      apart e = let closes = stands.closes in
          never (closes.closed u called b (in_to b B.acts there) over_it other) (ap (is_over B) (sym e) ∙ opened.unended)

  lasts_stay : (l : Label) → Right B (body.Committed l) → (m : List ℕ) → lasts_in (is_on (with_named B.acts l B.committed)) u
      (path B.acts m) (top_in (path B.acts m)) ≡ lasts_in (is_on B.committed) u (path B.acts m) (top_in (path B.acts m))
  lasts_stay l right m = by (top_in (path B.acts m)) refl
    where
      by : (o : Option Act) → top_in (path B.acts m) ≡ o →
          lasts_in (is_on (with_named B.acts l B.committed)) u (path B.acts m) o ≡ lasts_in (is_on B.committed) u (path B.acts m) o
      by None is = refl
      by (Some t) is = one (uid_eq t.uid u) refl
        where
          one : (b : Bool) → uid_eq t.uid u ≡ b → (b && list_all (λ (y : Act). is_on (with_named B.acts l B.committed) y.uid)
              (chain_in (path B.acts m))) ≡ (b && list_all (λ (y : Act). is_on B.committed y.uid) (chain_in (path B.acts m)))
          one false off = refl
          one true same = all_same (λ (y : Act). is_on (with_named B.acts l B.committed) y.uid) (λ (y : Act). is_on B.committed y.uid)
              (chain_in (path B.acts m)) (λ b i. none_commits l right m t is same b i)

  pub included_turn : (b : Body) → Right B b → (x s : ℕ) → has_included (turned B b) u x s ≡ has_included B u x s
  included_turn (body.Began l k w p) right x s = any_same (includes_in (turned B (body.Began l k w p)) u x s) (includes_in B u x s)
      B.accesses (λ a i. ap (λ q. lasts_in (is_on B.committed) u q (top_in q) && ((a.x == x) && is_of_store s a.store))
      (path_old new B.acts a.act right.0 (in_from a.act B.acts (let z = stands.sane in z.acted a (in_to a B.accesses i)))))
    where
      new : Act
      new = record { id = length B.acts; label = name l; kind = k; uid = w; parent = option_map name p }
  included_turn (body.Committed l) right x s = any_same (includes_in (turned B (body.Committed l)) u x s) (includes_in B u x s) B.accesses
      (λ a i. ap (λ b. b && ((a.x == x) && is_of_store s a.store)) (lasts_stay l right (let c = a.act in c.label)))
  included_turn (body.Ok l y o q) (c, opened, quiet) x s =
      ap (list_any (includes_in B u x s)) (ap (λ z. with_access z y None B.accesses) opened.named)
      ∙ ap (λ b. b || has_included B u x s) (no_store B u x s c y)
  included_turn (body.Includes l y n) (c, opened, quiet) x s =
      ap (list_any (includes_in B u x s)) (ap (λ z. with_access z y (Some n) B.accesses) opened.named)
      ∙ ap (λ b. (b && ((y == x) && (n == s))) || has_included B u x s) (none_open l c opened.named (c, opened, quiet))
  included_turn (body.Committing l) right x s = refl
  included_turn (body.Aborted l w) right x s = refl
  included_turn (body.Ended l) right x s = refl
  included_turn (body.Recovered n w) right x s = refl
  included_turn b right x s = refl

-- names stay
pub name_stays : (B : Book) (b : Body) → Right B b → (l : List ℕ) (a : Act) → act_in B.acts l ≡ Some a →
    act_in (let V = turned B b in V.acts) l ≡ Some a
name_stays B (body.Began m k w p) right l a is = still_named B.acts _ right.0 l a is
name_stays B b right l a is = is

-- and behind lines
pub included_from : (B : Book) (ls : List Line) → AreRight B ls → Stands B → (u : Uid) → is_on B.called u ≡ true → (x s : ℕ) →
    has_included (book_from B ls) u x s ≡ has_included B u x s
included_from B [] right stands u called x s = refl
included_from B (k ∷ ls) right stands u called x s = included_from (turned B k.body) ls right.1 (stands_turn B k.body right.0 stands) u
    (let t = later_turn B k.body in t.called u called) x s ∙ included_turn B stands u called k.body right.0 x s

-- ---- commits under way

-- what a commit of this name includes stays so
pub fits_turn : (B : Book) (b : Body) → Right B b → Stands B → (l : List ℕ) (m : Machine) → FitsIncludes B l m →
    FitsIncludes (turned B b) l m
fits_turn B b right stands l m (a, named, called, its) = (
  a,
  name_stays B b right l a named,
  (let t = later_turn B b in t.called a.uid called),
  record { rising = its.rising; same = λ x s. its.same x s ∙ sym (included_turn B stands a.uid called b right x s) },
)

-- and behind effects
pub fits_after : (k : ℕ) (B : Book) (es : List Effect) → AreLined k B es → Stands B → (l : List ℕ) (m : Machine) → FitsIncludes B l m →
    FitsIncludes (after B es) l m
fits_after k B [] lined stands l m fits = fits
fits_after k B (Say b ∷ es) lined stands l m fits =
    fits_after k (turned B b) es lined.1 (stands_turn B b lined.0.0 stands) l m (fits_turn B b lined.0.0 stands l m fits)
fits_after k B (Send to q ∷ es) lined stands l m fits = fits_after k B es lined.1 stands l m fits
fits_after k B (Do w ∷ es) lined stands l m fits = fits_after k B es lined.1 stands l m fits

-- a step of the commit goes on with the same uses
pub fits_step : (B : Book) (l : List ℕ) (m n : Machine) → (let p = plan_of n in p.used) ≡ (let p = plan_of m in p.used) →
    FitsIncludes B l m → FitsIncludes B l n
fits_step B l m n same (a, named, called, its) = (
  a,
  named,
  called,
  record {
    rising = λ x. subst AreRising (sym (joins x)) (its.rising x);
    same = λ x s. ap (λ ns. has ns s) (joins x) ∙ its.same x s;
  },
)
  where
    of : (o : Option Used) (c d : Option ObjectState) → (let q = plan_by o c in q.joins) ≡ (let q = plan_by o d in q.joins)
    of None c d = refl
    of (Some w) c d = refl

    joins : (x : ℕ) → (let q = plan_at x (plan_of n) in q.joins) ≡ (let q = plan_at x (plan_of m) in q.joins)
    joins x = of (used_at x (let p = plan_of n in p.used)) (changed_of x (plan_of n)) (changed_of x (plan_of m))
        ∙ ap (λ us. let q = plan_by (used_at x us) (changed_of x (plan_of m)) in q.joins) same
