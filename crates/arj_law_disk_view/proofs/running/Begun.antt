-- The kinds of the actions that were begun agree with them.
use Rattle.arj_law_parts.proofs.Words
use Words.{◌≡◌, ◌≢◌, ◌≤◌, ℕ, ◌+◌, ◌==◌, ◌&&◌, ◌||◌, List, [], ◌∷◌, ◌++◌, Bool, true, false, refl, sym, ◌∙◌, ap, subst, inl, inr, ⊎_elim}
use Words.{arith, length, length-append, Contains, if◌then◌else◌, nat_le, and_parts, nat_tests, uid_cases, uid_same, In, in_from, in_to}
use Words.{Uid, Kind, Path, uid_eq, uids_of, tops_of, is_on, first_uid, uid_number, root_of, number_tells, is_serial}
use Words.kind
use Rattle.arj_law_disk_view.proofs.Terms
use Terms.{Action, AreBegun, Stands, act_of, on_own, path_some, bool_cases, falls_to, never, or_cases, or_left, test_is, test_not}
use Terms.{test_same, IsOfKind, Agrees, AreOfOneNode, is_of_kind, is_top_kind, kinds_of}
use Rattle.arj_law_disk_view.specs.running.Kinds.{root_in, root_number}
use Rattle.arj_law_parts.specs.parts.Actions.{IsNew}

-- ---- where an action of each kind stands

abbrev pub Stood : List Action → Action → Kind → Type 0
Stood acts a kind.Nested = nat_le (length (uids_of a.path)) 1 ≡ false
Stood acts a kind.Constituent =
    (b : Action) × Contains acts b × (b.kind ≡ kind.Serial) × (uids_of a.path ≡ act_of b ∷ act_of a ∷ []) × (tops_of a.path ≡ 2)
Stood acts a _ = (uids_of a.path ≡ act_of a ∷ []) × (tops_of a.path ≡ 1)

more : (c : Action) (acts : List Action) (a : Action) (kd : Kind) → Stood acts a kd → Stood (c ∷ acts) a kd
more c acts a kind.Nested s = s
more c acts a kind.Constituent s = (s.0, in_to s.0 (c ∷ acts) (inr (in_from s.0 acts s.1)), s.2, s.3, s.4)
more c acts a kind.Top s = s
more c acts a kind.Serial s = s
more c acts a kind.Independent s = s

stood_in : (acts : List Action) → AreBegun acts → (a : Action) → In a acts → Stood acts a a.kind
stood_in [] begun a i = absurd i
stood_in (c ∷ acts) begun a (inr i) = more c acts a a.kind (stood_in acts begun.1 a i)
stood_in (c ∷ acts) begun a (inl same) = subst (λ (x : Action). Stood (c ∷ acts) x x.kind) same
    (more c acts c c.kind (first c.kind begun.0.stands (λ b i is. serial_stood b is (stood_in acts begun.1 b i))))
  where
    serial_stood : (b : Action) → b.kind ≡ kind.Serial → Stood acts b b.kind → uids_of b.path ≡ act_of b ∷ []
    serial_stood b is s = (subst (λ kd. Stood acts b kd) is s).0

    long : (b : Action) → uids_of c.path ≡ uids_of b.path ++ act_of c ∷ [] → nat_le (length (uids_of c.path)) 1 ≡ false
    long b is = too_long (length (uids_of c.path)) (length (uids_of b.path))
        (ap (λ us. length us) is ∙ length-append (uids_of b.path) (act_of c ∷ [])) (path_some b.path)
      where
        too_long : (n m : ℕ) → n ≡ m + 1 → 1 ≤ m → nat_le n 1 ≡ false
        too_long n m is some = grind (arith, nat_tests)

    first : (kd : Kind) → Stands acts c kd → ((b : Action) → In b acts → b.kind ≡ kind.Serial → uids_of b.path ≡ act_of b ∷ []) →
        Stood acts c kd
    first kind.Nested s serial = long s.0 s.3
    first kind.Constituent s serial = (s.0, s.1, s.2, s.3 ∙ ap (λ us. us ++ act_of c ∷ []) (serial s.0 (in_from s.0 acts s.1) s.2), s.4)
    first kind.Top s serial = s
    first kind.Serial s serial = s
    first kind.Independent s serial = s

pub stood : (acts : List Action) → AreBegun acts → (a : Action) → Contains acts a → Stood acts a a.kind
stood acts begun a c = stood_in acts begun a (in_from a acts c)

-- ---- numbers

-- a new action isn't one of the others
apart : (u : Uid) (acts : List Action) → IsNew u acts → (a : Action) → In a acts → act_of a ≢ u
apart u acts new a i same = never (ap (λ w. is_on (uids_of a.path) w) (sym same) ∙ on_own a.path) (new a (in_to a acts i))

other_number : (u w : Uid) → u ≢ w → (uid_number u == uid_number w) ≡ false
other_number u w other = test_not (uid_number u) (uid_number w) (λ e. other (number_tells u w e))

none_of : (f : Kind → Bool) (u : Uid) (acts : List Action) → ((a : Action) → In a acts → act_of a ≢ u) →
    is_of_kind f acts (uid_number u) ≡ false
none_of f u [] off = refl
none_of f u (a ∷ acts) off = (λ i. (other_number (act_of a) u (off a (inl refl)) i && f a.kind) || is_of_kind f acts (uid_number u))
    ∙ none_of f u acts (λ b i. off b (inr i))

or_none : (b : Bool) → (b || false) ≡ b
or_none true = refl
or_none false = refl

kind_in : (f : Kind → Bool) (acts : List Action) → AreBegun acts → (a : Action) → In a acts →
    is_of_kind f acts (uid_number (act_of a)) ≡ f a.kind
kind_in f [] begun a i = absurd i
kind_in f (c ∷ acts) begun a (inr i) = (λ j. (other_number (act_of c) (act_of a) (λ same. apart (act_of c) acts begun.0.new a i (sym same))
    j && f c.kind) || is_of_kind f acts (uid_number (act_of a))) ∙ kind_in f acts begun.1 a i
kind_in f (c ∷ acts) begun a (inl same) = subst (λ (x : Action). is_of_kind f (c ∷ acts) (uid_number (act_of x)) ≡ f x.kind) same
    ((λ j. (test_same (uid_number (act_of c)) j && f c.kind) || none_of f (act_of c) acts (λ b i. apart (act_of c) acts begun.0.new b i) j)
    ∙ or_none (f c.kind))

root_is : (acts : List Action) → AreBegun acts → (a : Action) → In a acts → root_in acts (uid_number (act_of a)) ≡ root_number a
root_is [] begun a i = absurd i
root_is (c ∷ acts) begun a (inr i) = ap (λ b. if b then root_number c else root_in acts (uid_number (act_of a)))
    (other_number (act_of c) (act_of a) (λ same. apart (act_of c) acts begun.0.new a i (sym same))) ∙ root_is acts begun.1 a i
root_is (c ∷ acts) begun a (inl same) = subst (λ (x : Action). root_in (c ∷ acts) (uid_number (act_of x)) ≡ root_number x) same
    (ap (λ b. if b then root_number c else root_in acts (uid_number (act_of c))) (test_same (uid_number (act_of c))))

of_top : (a : Action) (b : Bool) → is_top_kind a.kind ≡ b →
    root_number a ≡ (if b then uid_number (root_of a.path) else uid_number (act_of a))
of_top a b is = ap (λ c. if c then uid_number (root_of a.path) else uid_number (act_of a)) is

-- who is no top is its own root
own_root : (acts : List Action) (z : ℕ) → is_of_kind is_top_kind acts z ≡ false → root_in acts z ≡ z
own_root [] z none = refl
own_root (a ∷ acts) z none = by (uid_number (act_of a) == z) refl (is_top_kind a.kind) refl none (own_root acts z)
  where
    by : (b : Bool) → (uid_number (act_of a) == z) ≡ b → (c : Bool) → is_top_kind a.kind ≡ c → ((b && c) || is_of_kind is_top_kind acts z)
        ≡ false → (is_of_kind is_top_kind acts z ≡ false → root_in acts z ≡ z) → (if b then root_number a else root_in acts z) ≡ z
    by false other c is n rest = rest n
    by true same true is n rest = absurd (never refl n)
    by true same false is n rest = of_top a false is ∙ test_is (uid_number (act_of a)) z same

no_top : (kd : Kind) → is_serial kd ≡ true → is_top_kind kd ≡ false
no_top kind.Nested h = refl
no_top kind.Serial h = refl
no_top kind.Constituent h = absurd (never h refl)
no_top kind.Top h = absurd (never h refl)
no_top kind.Independent h = absurd (never h refl)

-- the action of a kind
kind_from : (f : Kind → Bool) (acts : List Action) (z : ℕ) → is_of_kind f acts z ≡ true →
    (a : Action) × In a acts × (uid_number (act_of a) ≡ z) × (f a.kind ≡ true)
kind_from f [] z on = absurd (cc on)
kind_from f (c ∷ acts) z on = ⊎_elim (λ here. let p = and_parts (uid_number (act_of c) == z) (f c.kind) here in
    (c, inl refl, test_is (uid_number (act_of c)) z p.0, p.1)) (λ rest. let r = kind_from f acts z rest in (r.0, inr r.1, r.2, r.3))
    (or_cases ((uid_number (act_of c) == z) && f c.kind) (is_of_kind f acts z) on)

-- ---- roots

pub root_on : (p : Path) → is_on (uids_of p) (root_of p) ≡ true
root_on p = by (uids_of p) (path_some p)
  where
    by : (us : List Uid) → 1 ≤ length us → is_on us (first_uid us) ≡ true
    by [] some = absurd (let no_way : ◌≡◌ {A = ℕ} 0 1 = omega (arith, some) in cc)
    by (u ∷ us) some = or_left (uid_eq u u) (is_on us u) (uid_same u)

module _ (acts : List Action) (begun : AreBegun acts) (home : AreOfOneNode acts) where
  of_kind : (a : Action) → In a acts → (kd : Kind) → a.kind ≡ kd → Stood acts a kd → IsOfKind (kinds_of acts) (act_of a) kd a.path
  of_kind a i kind.Nested is s =
      (kind_in is_top_kind acts begun a i ∙ ap is_top_kind is, kind_in is_serial acts begun a i ∙ ap is_serial is, s)
  of_kind a i kind.Serial is s =
      (kind_in is_top_kind acts begun a i ∙ ap is_top_kind is, kind_in is_serial acts begun a i ∙ ap is_serial is, s.0)
  of_kind a i kind.Constituent is s = (
    kind_in is_top_kind acts begun a i ∙ ap is_top_kind is,
    kind_in is_serial acts begun a i ∙ ap is_serial is,
    s.3 ∙ (λ j. sym (ap first_uid s.3) j ∷ act_of a ∷ []),
  )
  of_kind a i kind.Top is s =
      (kind_in is_top_kind acts begun a i ∙ ap is_top_kind is, kind_in is_serial acts begun a i ∙ ap is_serial is, s.0)
  of_kind a i kind.Independent is s =
      (kind_in is_top_kind acts begun a i ∙ ap is_top_kind is, kind_in is_serial acts begun a i ∙ ap is_serial is, s.0)

  -- the action of a top, and its root
  record TopOf (w : Uid) : Type 0 where
    it : Action
    there : In it acts
    is : act_of it ≡ w
    top : is_top_kind it.kind ≡ true
    root : root_in acts (uid_number w) ≡ uid_number (root_of it.path)

  top_of : (w : Uid) → is_of_kind is_top_kind acts (uid_number w) ≡ true → TopOf w
  top_of w on =
      let r = kind_from is_top_kind acts (uid_number w) on in
      let same : act_of r.0 ≡ w = number_tells (act_of r.0) w r.2 in
      record {
        it = r.0;
        there = r.1;
        is = same;
        top = r.3;
        root = ap (λ u. root_in acts (uid_number u)) (sym same) ∙ root_is acts begun r.0 r.1 ∙ of_top r.0 true r.3;
      }

  -- a root that isn't the top itself is a serializing action's
  serial_root : (w r : Uid) (t : TopOf w) → root_of t.it.path ≡ r → w ≢ r →
      (is_of_kind is_top_kind acts (uid_number r) ≡ false) × (is_of_kind is_serial acts (uid_number r) ≡ true)
  serial_root w r t root other = by t.it.kind refl t.top (stood_in acts begun t.it t.there)
    where
      own : uids_of t.it.path ≡ act_of t.it ∷ [] → w ≡ r
      own path = sym t.is ∙ sym (ap first_uid path) ∙ root

      by : (kd : Kind) → t.it.kind ≡ kd → is_top_kind kd ≡ true → Stood acts t.it t.it.kind →
          (is_of_kind is_top_kind acts (uid_number r) ≡ false) × (is_of_kind is_serial acts (uid_number r) ≡ true)
      by kind.Nested is top s = absurd (cc top)
      by kind.Serial is top s = absurd (cc top)
      by kind.Top is top s = absurd (other (own (subst (λ kd. Stood acts t.it kd) is s).0))
      by kind.Independent is top s = absurd (other (own (subst (λ kd. Stood acts t.it kd) is s).0))
      by kind.Constituent is top s =
          let q = subst (λ kd. Stood acts t.it kd) is s in
          let same : act_of q.0 ≡ r = sym (ap first_uid q.3) ∙ root in
          let b = in_from q.0 acts q.1 in (
            ap (λ u. is_of_kind is_top_kind acts (uid_number u)) (sym same) ∙ kind_in is_top_kind acts begun q.0 b ∙ ap is_top_kind q.2,
            ap (λ u. is_of_kind is_serial acts (uid_number u)) (sym same) ∙ kind_in is_serial acts begun q.0 b ∙ ap is_serial q.2,
          )

  -- a serializing action is its own root, and so is whoever has no such root
  alone : (z : ℕ) → is_of_kind is_serial acts z ≡ true → root_in acts z ≡ z
  alone z on =
      let r = kind_from is_serial acts z on in
      ap (root_in acts) (sym r.2) ∙ root_is acts begun r.0 r.1 ∙ of_top r.0 false (no_top (let a = r.0 in a.kind) r.3) ∙ r.2

  plain : (z : ℕ) → is_of_kind is_serial acts (root_in acts z) ≡ false → root_in acts z ≡ z
  plain z none = ⊎_elim top (own_root acts z) (bool_cases (is_of_kind is_top_kind acts z))
    where
      top : is_of_kind is_top_kind acts z ≡ true → root_in acts z ≡ z
      top on =
          let r = kind_from is_top_kind acts z on in
          let t = top_of (act_of r.0) (ap (is_of_kind is_top_kind acts) r.2 ∙ on) in
          let root : root_in acts z ≡ uid_number (root_of t.it.path) = ap (root_in acts) (sym r.2) ∙ t.root in
          ⊎_elim (λ same. root ∙ ap uid_number (sym same) ∙ r.2)
          (λ other. absurd (never (ap (is_of_kind is_serial acts) root ∙ (serial_root (act_of r.0) (root_of t.it.path) t refl other).1)
          none)) (uid_cases (act_of r.0) (root_of t.it.path))

  -- a top is no serializing action
  never_both : (z : ℕ) → is_of_kind is_top_kind acts z ≡ true → is_of_kind is_serial acts z ≡ false
  never_both z on =
      let r = kind_from is_top_kind acts z on in
      ap (is_of_kind is_serial acts) (sym r.2) ∙ kind_in is_serial acts begun r.0 r.1
      ∙ falls_to (is_serial (let a = r.0 in a.kind)) (λ serial. never r.3 (no_top (let a = r.0 in a.kind) serial))

  pub kinds_agree : Agrees (kinds_of acts) acts
  kinds_agree = record {
    kinds = record {
      named = λ z on. let r = kind_from is_top_kind acts z on in (act_of r.0, r.2);
      apart = never_both;
      serial = λ w r top root other. let t = top_of w top in
          serial_root w r t (number_tells (root_of t.it.path) r (sym t.root ∙ root)) other;
      own = λ w r top root. own w r (top_of w top) root;
      rooted = λ w top. let t = top_of w top in (root_of t.it.path, t.root);
      alone = alone;
      plain = plain;
      idem = λ z. ⊎_elim (alone (root_in acts z)) (λ none. ap (root_in acts) (plain z none))
          (bool_cases (is_of_kind is_serial acts (root_in acts z)));
    };
    unwalked = refl;
    each = λ a c. let i = in_from a acts c in (
      of_kind a i a.kind refl (stood_in acts begun a i),
      λ top. root_is acts begun a i ∙ of_top a true (sym (kind_in is_top_kind acts begun a i) ∙ top),
    );
  }
    where
      own : (w r : Uid) → TopOf w → root_in acts (uid_number w) ≡ uid_number r → (w.node ≡ r.node) × (w.inc ≡ r.inc)
      own w r t root =
          let same : root_of t.it.path ≡ r = number_tells (root_of t.it.path) r (sym t.root ∙ root) in
          let h = home t.it (root_of t.it.path) (in_to t.it acts t.there) (root_on t.it.path) in (
            sym (ap (λ (u : Uid). u.node) t.is) ∙ sym h.0 ∙ ap (λ (u : Uid). u.node) same,
            sym (ap (λ (u : Uid). u.inc) t.is) ∙ sym h.1 ∙ ap (λ (u : Uid). u.inc) same,
          )
