-- What a coordinator's tree and roots have of the actions and accesses of a book, from line to line.
use Rattle.arj_law_parts.proofs.Words
use Words.{◌≡◌, ◌⊎◌, ◌==◌, ◌&&◌, ℕ, List, [], ◌∷◌, ◌++◌, Bool, true, false, cond, length, Option, Some, None, refl, sym, ◌∙◌, ap, subst}
use Words.{inl, inr, ⊎_elim, Contains, eqb-true, unwrap_or, list_any, bytes_eq, and_parts, or_cases, map-append, bytes_eq-Decides, uid_is}
use Words.{is_on, last_uid, uid_eq, In, in_from, in_to, actor, put_same, Coord, Joined, Root, Said, joined_with, later_state, no_root}
use Words.{on_root, same_join, same_said, with_join, with_said, at_number, Branch, Tree, branch_of, is_own, next_uid, root_of, Body, Kind}
use Words.{Label, ObjectState, Path, Uid, name, uids_of}
use Words.body
use Words.kind
use Rattle.arj_law_runs.proofs.Terms
use Terms.{option_map, Act, act_in, path, path_in, uids, upwards, on_more, found_by, grown_cases, grown_still, new as new_branch, Access}
use Terms.{Book, turned, with_access, HasNoted, IsAbout, Ties, root_in, BeginsIn, Right, has_act}
use Rattle.arj_law_parts.proofs.parts.GoodTrees.{grown, new_there}
use Rattle.arj_law_runs.proofs.coordinators.CoordUses.{root_cases, some_is}
use Rattle.arj_law_runs.proofs.journal.{Books.never, Models.among, Models.named_in}
use Rattle.arj_law_runs.specs.journal.Knows.{HasSaid, IsAccess}

-- ---- labels and paths

-- who began is found by its label
pub in_named : (acts : List Act) (a : Act) → In a acts → (x : Act) × (act_in acts a.label ≡ Some x)
in_named [] a i = absurd i
in_named (x ∷ acts) a (inl same) = (
  x,
  ap (λ b. cond b (Some x) (act_in acts a.label))
      (ap (λ (y : Act). bytes_eq y.label a.label) same ∙ (bytes_eq-Decides a.label a.label).1 refl),
)
in_named (x ∷ acts) a (inr i) = by (bytes_eq x.label a.label) (in_named acts a i)
  where
    by : (b : Bool) → ((y : Act) × (act_in acts a.label ≡ Some y)) → (y : Act) × (cond b (Some x) (act_in acts a.label) ≡ Some y)
    by true ih = (x, refl)
    by false ih = ih

-- who is found by a label has it
pub named_label : (acts : List Act) (l : List ℕ) (a : Act) → act_in acts l ≡ Some a → a.label ≡ l
named_label [] l a is = absurd (cc is)
named_label (x ∷ acts) l a is = by (bytes_eq x.label l) refl is (named_label acts l a)
  where
    by : (b : Bool) → bytes_eq x.label l ≡ b → cond b (Some x) (act_in acts l) ≡ Some a → (act_in acts l ≡ Some a → a.label ≡ l) →
        a.label ≡ l
    by true same e ih = ap (λ (y : Act). y.label) (sym (some_is x a e)) ∙ (bytes_eq-Decides x.label l).0 same
    by false other e ih = ih e

-- a new action leaves the paths of the others
pub path_old : (new : Act) (acts : List Act) (a : Act) → act_in acts new.label ≡ None → In a acts →
    path (new ∷ acts) a.label ≡ path acts a.label
path_old new acts a none i = by (bytes_eq new.label a.label) refl
  where
    by : (b : Bool) → bytes_eq new.label a.label ≡ b → cond b (path_in acts new) (path acts a.label) ≡ path acts a.label
    by true same =
        let f = in_named acts a i in
        let no_way : ◌≡◌ {A = Option Act} None (Some f.0) = sym none ∙ ap (act_in acts) ((bytes_eq-Decides new.label a.label).0 same)
        ∙ f.1 in
        absurd (cc no_way)
    by false other = refl

pub path_new : (new : Act) (acts : List Act) → path (new ∷ acts) new.label ≡ path_in acts new
path_new new acts = ap (λ b. cond b (path_in acts new) (path acts new.label)) ((bytes_eq-Decides new.label new.label).1 refl)

-- who is on the path of a new action is that, or on the path of its parent
pub on_new : (new : Act) (acts : List Act) (u : Uid) → is_on (uids (path_in acts new)) u ≡ true →
    (u ≡ new.uid) ⊎ ((p : List ℕ) × (new.parent ≡ Some p) × (is_on (uids (path acts p)) u ≡ true))
on_new new acts u on =
    ⊎_elim (λ above. inr (up new.parent new.kind above)) (λ last. inl (sym last)) (on_more (uids (upwards new.parent new.kind (path acts)))
    new.uid u (ap (λ us. is_on us u) (sym (map-append (λ (x : Act). x.uid) (upwards new.parent new.kind (path acts)) (new ∷ []))) ∙ on))
  where
    up : (o : Option (List ℕ)) (k : Kind) → is_on (uids (upwards o k (path acts))) u ≡ true →
        (p : List ℕ) × (o ≡ Some p) × (is_on (uids (path acts p)) u ≡ true)
    up None k e = absurd (cc e)
    up (Some p) kind.Independent e = absurd (cc e)
    up (Some p) kind.Top e = (p, refl, e)
    up (Some p) kind.Serial e = (p, refl, e)
    up (Some p) kind.Nested e = (p, refl, e)
    up (Some p) kind.Constituent e = (p, refl, e)

-- ---- from one coordinator to the next

-- what a root has noted, as another has it
pub noted_same : (s : Option ℕ) (x : ℕ) (us : List Uid) (r q : Root) → q.said ≡ r.said → q.joined ≡ r.joined → HasNoted s x us r →
    HasNoted s x us q
noted_same s x us r q said joined h = by s h
  where
    one : HasSaid x us r → HasSaid x us q
    one (t, there, is, at) = (t, subst (λ ts. Contains ts t) (sym said) there, is, at)

    by : (o : Option ℕ) → HasNoted o x us r → HasNoted o x us q
    by None n = one n
    by (Some m) (inl (j, there, is, at, store)) = inl (j, subst (λ js. Contains js j) (sym joined) there, is, at, store)
    by (Some m) (inr n) = inr (one n)

-- Branches have their paths, and roots what they were answered.
pub record SameTies (t v : Tree) (roots after : List (ℕ × Root)) : Type 0 where
  pub back : (w : Uid) (z : Branch) → branch_of w v ≡ Some z → (a : Branch) × (branch_of w t ≡ Some a) × (a.path ≡ z.path)
  pub forth : (w : Uid) (a : Branch) → branch_of w t ≡ Some a → (z : Branch) × (branch_of w v ≡ Some z) × (a.path ≡ z.path)
  pub own : (w : Uid) → is_own w v ≡ is_own w t
  pub said : (root : Uid) → (root_in root after).said ≡ (root_in root roots).said
  pub joined : (root : Uid) → (root_in root after).joined ≡ (root_in root roots).joined

pub ties_same : (t : Tree) (roots : List (ℕ × Root)) → SameTies t t roots roots
ties_same t roots =
    record { back = λ w z at. (z, at, refl); forth = λ w a at. (a, at, refl); own = λ w. refl; said = λ r. refl; joined = λ r. refl }

pub ties_then : (t u v : Tree) (p q r : List (ℕ × Root)) → SameTies t u p q → SameTies u v q r → SameTies t v p r
ties_then t u v p q r a b = record {
  back = λ w z at. let x = b.back w z at in let y = a.back w x.0 x.1 in (y.0, y.1, y.2 ∙ x.2);
  forth = λ w z at. let x = a.forth w z at in let y = b.forth w x.0 x.1 in (y.0, y.1, x.2 ∙ y.2);
  own = λ w. b.own w ∙ a.own w;
  said = λ n. b.said n ∙ a.said n;
  joined = λ n. b.joined n ∙ a.joined n;
}

access_on : (accesses : List Access) (t v : Tree) (us : List Uid) (x : ℕ) (P : Option ℕ → Type 0) → ((w : Uid) (a : Branch) → branch_of w t
    ≡ Some a → (z : Branch) × (branch_of w v ≡ Some z) × (a.path ≡ z.path)) → IsAccess accesses t us x P → IsAccess accesses v us x P
access_on accesses t v us x P forth (a, b, there, found, path, at, store) = let z = forth (let c = a.act in c.uid) b found in
    (a, z.0, there, z.1, path ∙ ap uids_of z.2, at, store)

pub ties_on : (acts : List Act) (accesses : List Access) (t v : Tree) (roots after : List (ℕ × Root)) → SameTies t v roots after →
    Ties acts accesses t roots → Ties acts accesses v after
ties_on acts accesses t v roots after s ties = record {
  paths = λ a b there found. let x = s.back a.uid b found in ties.paths a x.0 there x.1 ∙ ap uids_of x.2;
  homes = λ a u there on own. let h = ties.homes a u there on (sym (s.own u) ∙ own) in let z = s.forth a.uid h.0 h.1 in (z.0, z.1);
  noted = λ a b there found. let x = s.back (let c = a.act in c.uid) b found in
      noted_same a.store a.x (uids_of b.path) (root_in (root_of b.path) roots) (root_in (root_of b.path) after) (s.said (root_of b.path))
      (s.joined (root_of b.path))
      (subst (λ p. HasNoted a.store a.x (uids_of p) (root_in (root_of p) roots)) x.2 (ties.noted a x.0 there x.1));
  said = λ root q there.
      access_on accesses t v q.path q.x (λ store. Unit {0}) s.forth (ties.said root q (subst (λ ss. Contains ss q) (s.said root) there));
  joined = λ root j there. access_on accesses t v j.path j.x (λ store. store ≡ Some j.store) s.forth
      (ties.joined root j (subst (λ js. Contains js j) (s.joined root) there));
}

-- ---- an action begins

pub ties_begun : (acts : List Act) (accesses : List Access) (t : Tree) (roots : List (ℕ × Root)) (how : Kind) (p : Path) (new : Act) →
    new.uid ≡ next_uid t → act_in acts new.label ≡ None → has_act acts (next_uid t) ≡ false → uids (path_in acts new) ≡ uids_of p →
    ((a : Access) → Contains accesses a → Contains acts a.act)
    → Ties acts accesses t roots → Ties (new ∷ acts) accesses (grown how p t) roots
ties_begun acts accesses t roots how p new uid none unknown its acted ties = record {
  paths = λ a b there found. by a b (in_from a (new ∷ acts) there) found;
  homes = λ a u there on own. home a u (in_from a (new ∷ acts) there) on own;
  noted = λ a b there found. ties.noted a b there (old a.act b (in_from a.act acts (acted a there)) found);
  said = λ root s there. access_on accesses t (grown how p t) s.path s.x (λ store. Unit {0}) (λ w b f. (b, grown_still how p t w b f, refl))
      (ties.said root s there);
  joined = λ root j there. access_on accesses t (grown how p t) j.path j.x (λ store. store ≡ Some j.store)
      (λ w b f. (b, grown_still how p t w b f, refl)) (ties.joined root j there);
}
  where
    -- who began before is where it was
    old : (a : Act) (b : Branch) → In a acts → branch_of a.uid (grown how p t) ≡ Some b → branch_of a.uid t ≡ Some b
    old a b i found = ⊎_elim (λ was. was) (λ same. absurd (never (among acts a i) (ap (has_act acts) same.0 ∙ unknown)))
        (grown_cases how p t a.uid b found)

    by : (a : Act) (b : Branch) → (new ≡ a) ⊎ In a acts → branch_of a.uid (grown how p t) ≡ Some b →
        uids (path (new ∷ acts) a.label) ≡ uids_of b.path
    by a b (inl same) found =
        let here : new_branch how p t ≡ b = some_is (new_branch how p t) b
        (sym (new_there how p t) ∙ ap (λ w. branch_of w (grown how p t)) (sym uid ∙ ap (λ (x : Act). x.uid) same) ∙ found) in
        ap (λ (x : Act). uids (path (new ∷ acts) x.label)) (sym same) ∙ ap uids (path_new new acts) ∙ its
        ∙ ap (λ (x : Branch). uids_of x.path) here
    by a b (inr i) found = ap uids (path_old new acts a none i) ∙ ties.paths a b (in_to a acts i) (old a b i found)

    home : (a : Act) (u : Uid) → (new ≡ a) ⊎ In a acts → is_on (uids (path (new ∷ acts) a.label)) u ≡ true → is_own u t ≡ true →
        (b : Branch) × (branch_of a.uid (grown how p t) ≡ Some b)
    home a u (inl same) on own =
        (new_branch how p t, ap (λ w. branch_of w (grown how p t)) (ap (λ (x : Act). x.uid) (sym same) ∙ uid) ∙ new_there how p t)
    home a u (inr i) on own = let h = ties.homes a u (in_to a acts i) (ap (λ q. is_on (uids q) u) (sym (path_old new acts a none i)) ∙ on)
        own in (h.0, grown_still how p t a.uid h.0 h.1)

-- ---- lines of another node

-- an access by an action that isn't of this tree
ties_off : (acts : List Act) (accesses : List Access) (t : Tree) (roots : List (ℕ × Root)) (new : Access) →
    ((b : Branch) → branch_of (let c = new.act in c.uid) t ≡ Some b → ⊥) → Ties acts accesses t roots → Ties acts (new ∷ accesses) t roots
ties_off acts accesses t roots new none ties = record {
  paths = ties.paths;
  homes = ties.homes;
  noted = λ a b there found. ⊎_elim (λ same. absurd (none b (ap (λ (x : Access). branch_of (let c = x.act in c.uid) t) same ∙ found)))
      (λ old. ties.noted a b (in_to a accesses old) found) (in_from a (new ∷ accesses) there);
  said = λ root s there. let q = ties.said root s there in
      (q.0, q.1, in_to q.0 (new ∷ accesses) (inr (in_from q.0 accesses q.2)), q.3, q.4, q.5, q.6);
  joined = λ root j there. let q = ties.joined root j there in
      (q.0, q.1, in_to q.0 (new ∷ accesses) (inr (in_from q.0 accesses q.2)), q.3, q.4, q.5, q.6);
}

module _ (k : ℕ) (B : Book) (t : Tree) (roots : List (ℕ × Root)) (other : t.node ≡ k → ⊥) where
  off : (u : Uid) (b : Branch) → branch_of u t ≡ Some b → u.node ≡ k → ⊥
  off u b found at = away u (found_by u t b found).0 at
    where
      away : (w : Uid) → is_own w t ≡ true → w.node ≡ k → ⊥
      away w own here = other (sym (eqb-true w.node t.node (and_parts (w.node == t.node) (w.inc == t.inc) own).0) ∙ here)

  accessed : (l : Label) (x : ℕ) (s : Option ℕ) (a : Act) → act_in B.acts (name l) ≡ Some a → a.uid.node ≡ k →
      Ties B.acts B.accesses t roots → Ties B.acts (with_access (act_in B.acts (name l)) x s B.accesses) t roots
  accessed l x s a is at ties =
      let new : Access = record { act = a; x = x; store = s } in
      subst (λ rs. Ties B.acts rs t roots) (sym (ap (λ o. with_access o x s B.accesses) is))
      (ties_off B.acts B.accesses t roots new (λ b found. off a.uid b found at) ties)

  began : (l : Label) (h : Kind) (u : Uid) (p : Option Label) → Right B (body.Began l h u p) → u.node ≡ k → Ties B.acts B.accesses t roots →
      Ties (let V = turned B (body.Began l h u p) in V.acts) B.accesses t roots
  began l h u p right at ties = record {
    paths = λ a b there found. ⊎_elim (λ same. absurd (off a.uid b found (ap (λ (x : Act). (let w = x.uid in w.node)) (sym same) ∙ at)))
        (λ i. ap uids (path_old new B.acts a right.0 i) ∙ ties.paths a b (in_to a B.acts i) found) (in_from a (new ∷ B.acts) there);
    homes = λ a w there on own. ⊎_elim (λ same. absurd (above w (on_new new B.acts w (ap (λ q. is_on (uids q) w) (sym (path_new new B.acts))
        ∙ ap (λ (x : Act). is_on (uids (path (new ∷ B.acts) x.label)) w) same ∙ on)) own)) (λ i. ties.homes a w (in_to a B.acts i)
        (ap (λ q. is_on (uids q) w) (sym (path_old new B.acts a right.0 i)) ∙ on) own) (in_from a (new ∷ B.acts) there);
    noted = ties.noted;
    said = ties.said;
    joined = ties.joined;
  }
    where
      new : Act
      new = record { id = length B.acts; label = name l; kind = h; uid = u; parent = option_map name p }

      -- nothing of this tree is above it
      above : (w : Uid) → (w ≡ u) ⊎ ((q : List ℕ) × (option_map name p ≡ Some q) × (is_on (uids (path B.acts q)) w ≡ true)) →
          is_own w t ≡ true → ⊥
      above w (inl same) own =
          other (sym (eqb-true w.node t.node (and_parts (w.node == t.node) (w.inc == t.inc) own).0) ∙ ap (λ (x : Uid). x.node) same ∙ at)
      above w (inr (q, is, on)) own = by p right.3 is
        where
          by : (o : Option Label) → BeginsIn B u o → option_map name o ≡ Some q → ⊥
          by None b e = cc e
          by (Some m) (s, opened, quiet, node, inc) e =
              let at_name : name m ≡ q = some_is (name m) q e in
              let label = named_label B.acts (name m) s opened.named in
              let home = ties.homes s w (in_to s B.acts (named_in B.acts (name m) s opened.named))
              (ap (λ x. is_on (uids (path B.acts x)) w) (label ∙ at_name) ∙ on) own in
              off s.uid home.0 home.1 (node ∙ at)

  pub ties_turn : (b : Body) → Right B b → IsAbout k B b → Ties B.acts B.accesses t roots →
      Ties (let V = turned B b in V.acts) (let V = turned B b in V.accesses) t roots
  ties_turn (body.Began l h u p) right at ties = began l h u p right at ties
  ties_turn (body.Ok l x o r) right at ties = let i = right.1 in accessed l x None right.0 i.named (at right.0 i.named) ties
  ties_turn (body.Includes l x n) right at ties = let i = right.1 in accessed l x (Some n) right.0 i.named (at right.0 i.named) ties
  ties_turn (body.Committing l) right at ties = ties
  ties_turn (body.Committed l) right at ties = ties
  ties_turn (body.Aborted l c) right at ties = ties
  ties_turn (body.Ended l) right at ties = ties
  ties_turn (body.Recovered n u) right at ties = ties
  ties_turn b right at ties = ties

-- ---- an answer is noted

-- of a member that a noted list has another one with what counts
said_kept : (s : Said) (r : Root) (t : Said) → In t r.said → In t (with_said s r).said
said_kept s r t i = by (list_any (same_said s) r.said)
  where
    more : (xs : List Said) → In t xs → In t (xs ++ s ∷ [])
    more [] j = absurd j
    more (x ∷ xs) (inl same) = inl same
    more (x ∷ xs) (inr j) = inr (more xs j)

    by : (b : Bool) → In t (let q : Root = cond b r (record r { said = r.said ++ s ∷ [] }) in q.said)
    by true = i
    by false = more r.said i

said_joined : (s : Said) (r : Root) → (with_said s r).joined ≡ r.joined
said_joined s r = by (list_any (same_said s) r.said)
  where
    by : (b : Bool) → (let q : Root = cond b r (record r { said = r.said ++ s ∷ [] }) in q.joined) ≡ r.joined
    by true = refl
    by false = refl

said_new : (s : Said) (r : Root) (t : Said) → In t (with_said s r).said → In t r.said ⊎ (s ≡ t)
said_new s r t = by (list_any (same_said s) r.said)
  where
    last : (xs : List Said) → In t (xs ++ s ∷ []) → In t xs ⊎ (s ≡ t)
    last [] (inl is) = inr is
    last [] (inr j) = absurd j
    last (x ∷ xs) (inl is) = inl (inl is)
    last (x ∷ xs) (inr j) = ⊎_elim (λ old. inl (inr old)) (λ new. inr new) (last xs j)

    by : (b : Bool) → In t (let q : Root = cond b r (record r { said = r.said ++ s ∷ [] }) in q.said) → In t r.said ⊎ (s ≡ t)
    by true j = inl j
    by false j = last r.said j

-- it is there, or one of the same action and object was
said_there : (s : Said) (r : Root) →
    In s (with_said s r).said ⊎ ((t : Said) × In t r.said × In t (with_said s r).said × (last_uid s.path ≡ last_uid t.path) × (s.x ≡ t.x))
said_there s r = by (list_any (same_said s) r.said) refl
  where
    any : (xs : List Said) → list_any (same_said s) xs ≡ true → (t : Said) × In t xs × (same_said s t ≡ true)
    any [] e = absurd (cc e)
    any (x ∷ xs) e = ⊎_elim (λ here. (x, inl refl, here)) (λ rest. let f = any xs rest in
        (f.0, inr f.1, f.2)) (or_cases (same_said s x) (list_any (same_said s) xs) e)

    last : (xs : List Said) → In s (xs ++ s ∷ [])
    last [] = inl refl
    last (x ∷ xs) = inr (last xs)

    by : (b : Bool) → list_any (same_said s) r.said ≡ b → In s (let q : Root = cond b r (record r { said = r.said ++ s ∷ [] }) in q.said)
        ⊎ ((t : Said) × In t r.said × In t (let q : Root = cond b r (record r { said = r.said ++ s ∷ [] }) in q.said)
        × (last_uid s.path ≡ last_uid t.path) × (s.x ≡ t.x))
    by true is = let f = any r.said is in
        let q = and_parts (uid_eq (last_uid s.path) (last_uid (let t = f.0 in t.path))) (s.x == (let t = f.0 in t.x)) f.2 in
        inr (f.0, f.1, f.1, uid_is (last_uid s.path) (last_uid (let t = f.0 in t.path)) q.0, eqb-true s.x (let t = f.0 in t.x) q.1)
    by false is = inl (last r.said)

-- an include that is there has its path, its object and its store there after another one
join_kept : (j : Joined) (js : List Joined) (i : Joined) → In i js →
    (o : Joined) × In o (joined_with j js) × (o.path ≡ i.path) × (o.x ≡ i.x) × (o.store ≡ i.store)
join_kept j [] i k = absurd k
join_kept j (x ∷ xs) i k = by (same_join j x) k (join_kept j xs i)
  where
    by : (b : Bool) → In i (x ∷ xs) →
        (In i xs → (o : Joined) × In o (joined_with j xs) × (o.path ≡ i.path) × (o.x ≡ i.x) × (o.store ≡ i.store))
        → (o : Joined) × In o (cond b (record x { loaded = later_state x.loaded j.loaded } ∷ xs) (x ∷ joined_with j xs))
        × (o.path ≡ i.path) × (o.x ≡ i.x) × (o.store ≡ i.store)
    by true (inl same) ih = (
      record x { loaded = later_state x.loaded j.loaded },
      inl refl,
      ap (λ (o : Joined). o.path) same,
      ap (λ (o : Joined). o.x) same,
      ap (λ (o : Joined). o.store) same,
    )
    by true (inr i) ih = (_, inr i, refl, refl, refl)
    by false (inl same) ih =
        (x, inl refl, ap (λ (o : Joined). o.path) same, ap (λ (o : Joined). o.x) same, ap (λ (o : Joined). o.store) same)
    by false (inr i) ih = let f = ih i in (f.0, inr f.1, f.2, f.3, f.4)

-- what is there after it was there, or is the new one
join_new : (j : Joined) (js : List Joined) (i : Joined) → In i (joined_with j js) → ((o : Joined) × In o js × (o.path ≡ i.path)
    × (o.x ≡ i.x) × (o.store ≡ i.store)) ⊎ ((j.path ≡ i.path) × (j.x ≡ i.x) × (j.store ≡ i.store))
join_new j [] i (inl same) = inr (ap (λ (o : Joined). o.path) same, ap (λ (o : Joined). o.x) same, ap (λ (o : Joined). o.store) same)
join_new j [] i (inr k) = absurd k
join_new j (x ∷ xs) i k = by (same_join j x) k (join_new j xs i)
  where
    by : (b : Bool) → In i (cond b (record x { loaded = later_state x.loaded j.loaded } ∷ xs) (x ∷ joined_with j xs)) →
        (In i (joined_with j xs) → ((o : Joined) × In o xs × (o.path ≡ i.path) × (o.x ≡ i.x) × (o.store ≡ i.store))
        ⊎ ((j.path ≡ i.path) × (j.x ≡ i.x) × (j.store ≡ i.store)))
        → ((o : Joined) × In o (x ∷ xs) × (o.path ≡ i.path) × (o.x ≡ i.x) × (o.store ≡ i.store))
        ⊎ ((j.path ≡ i.path) × (j.x ≡ i.x) × (j.store ≡ i.store))
    by true (inl same) ih =
        inl (x, inl refl, ap (λ (o : Joined). o.path) same, ap (λ (o : Joined). o.x) same, ap (λ (o : Joined). o.store) same)
    by true (inr i) ih = inl (_, inr i, refl, refl, refl)
    by false (inl same) ih =
        inl (x, inl refl, ap (λ (o : Joined). o.path) same, ap (λ (o : Joined). o.x) same, ap (λ (o : Joined). o.store) same)
    by false (inr i) ih = ⊎_elim (λ f. inl (f.0, inr f.1, f.2, f.3, f.4)) (λ new. inr new) (ih i)

-- it is there, by its path or that of one of the same action
join_there : (j : Joined) (js : List Joined) → (o : Joined) × In o (joined_with j js) × (o.x ≡ j.x) × (o.store ≡ j.store)
    × ((o.path ≡ j.path) ⊎ ((i : Joined) × In i js × (i.path ≡ o.path) × (last_uid j.path ≡ last_uid o.path)))
join_there j [] = (j, inl refl, refl, refl, inl refl)
join_there j (x ∷ xs) = by (same_join j x) refl (join_there j xs)
  where
    by : (b : Bool) → same_join j x ≡ b → ((o : Joined) × In o (joined_with j xs) × (o.x ≡ j.x) × (o.store ≡ j.store)
        × ((o.path ≡ j.path) ⊎ ((i : Joined) × In i xs × (i.path ≡ o.path) × (last_uid j.path ≡ last_uid o.path))))
        → (o : Joined) × In o (cond b (record x { loaded = later_state x.loaded j.loaded } ∷ xs) (x ∷ joined_with j xs)) × (o.x ≡ j.x)
        × (o.store ≡ j.store)
        × ((o.path ≡ j.path) ⊎ ((i : Joined) × In i (x ∷ xs) × (i.path ≡ o.path) × (last_uid j.path ≡ last_uid o.path)))
    by true is ih =
        let q = and_parts (uid_eq (last_uid j.path) (last_uid x.path)) ((j.x == x.x) && (j.store == x.store)) is in
        let r = and_parts (j.x == x.x) (j.store == x.store) q.1 in (
          record x { loaded = later_state x.loaded j.loaded },
          inl refl,
          sym (eqb-true j.x x.x r.0),
          sym (eqb-true j.store x.store r.1),
          inr (x, inl refl, refl, uid_is (last_uid j.path) (last_uid x.path) q.0),
        )
    by false is (o, i, at, store, inl same) = (o, inr i, at, store, inl same)
    by false is (o, i, at, store, inr (y, k, p, l)) = (o, inr i, at, store, inr (y, inr k, p, l))

module _ (acts : List Act) (accesses : List Access) (c : Coord) (ties : Ties acts accesses c.tree c.roots) (places : (w : Uid) (z : Branch)
    → branch_of w c.tree ≡ Some z → actor z.path ≡ w) (a : Act) (b : Branch) (found : branch_of a.uid c.tree ≡ Some b) (x : ℕ) where
  -- an access by the same action has its path
  same_path : (us vs : List Uid) (y : ℕ) (P : Option ℕ → Type 0) → us ≡ uids_of b.path → last_uid us ≡ last_uid vs →
      IsAccess accesses c.tree vs y P → vs ≡ uids_of b.path
  same_path us vs y P is last (o, z, there, at, path, obj, store) =
      let w : Uid = (let d = o.act in d.uid) in
      let one : w ≡ a.uid = sym (places w z at) ∙ ap last_uid (sym path) ∙ sym last ∙ ap last_uid is ∙ places a.uid b found in
      let same : z ≡ b = some_is z b (sym at ∙ ap (λ u. branch_of u c.tree) one ∙ found) in
      path ∙ ap (λ (d : Branch). uids_of d.path) same

  older : (new : Access) (us : List Uid) (y : ℕ) (P : Option ℕ → Type 0) → IsAccess accesses c.tree us y P →
      IsAccess (new ∷ accesses) c.tree us y P
  older new us y P (o, z, there, at, path, obj, store) =
      (o, z, in_to o (new ∷ accesses) (inr (in_from o accesses there)), at, path, obj, store)

  -- where a root has noted what is new, and what it had
  noted_more : (new : Access) → new.act ≡ a → (f : Root → Root) → HasNoted new.store new.x (uids_of b.path) (f
      (root_in (root_of b.path) c.roots)) → ((s : Option ℕ) (y : ℕ) (us : List Uid) (r : Root) → HasNoted s y us r → HasNoted s y us (f r))
      → ((t : Said) → In t (f (root_in (root_of b.path) c.roots)).said →
      In t (root_in (root_of b.path) c.roots).said ⊎ ((t.path ≡ uids_of b.path) × (new.x ≡ t.x)))
      → ((i : Joined) → In i (f (root_in (root_of b.path) c.roots)).joined →
      ((o : Joined) × In o (root_in (root_of b.path) c.roots).joined × (o.path ≡ i.path) × (o.x ≡ i.x) × (o.store ≡ i.store))
      ⊎ ((i.path ≡ uids_of b.path) × (new.x ≡ i.x) × (new.store ≡ Some i.store)))
      → Ties acts (new ∷ accesses) c.tree (let v = on_root (root_of b.path) f c in v.roots)
  noted_more new by_it f has keeps said joined = record {
    paths = ties.paths;
    homes = ties.homes;
    noted = λ o z there at. ⊎_elim
        (λ same.
        let here : z ≡ b = some_is z b
        (sym at ∙ ap (λ (d : Act). branch_of d.uid c.tree) (ap (λ (y : Access). y.act) (sym same) ∙ by_it) ∙ found) in
        subst (λ (d : Branch). HasNoted o.store o.x (uids_of d.path) (root_in (root_of d.path) after)) (sym here)
        (subst (λ (y : Access). HasNoted y.store y.x (uids_of b.path) (root_in (root_of b.path) after)) same (its_own has)))
        (λ old. still o.store o.x (uids_of z.path) (root_of z.path) (ties.noted o z (in_to o accesses old) at))
        (in_from o (new ∷ accesses) there);
    said = λ root t there. ⊎_elim
        (λ same. ⊎_elim
        (λ old. older new t.path t.x (λ s. Unit {0}) (ties.said (root_of b.path) t (in_to t (root_in (root_of b.path) c.roots).said old)))
        (λ fresh.
        (new, b, in_to new (new ∷ accesses) (inl refl), ap (λ (d : Act). branch_of d.uid c.tree) by_it ∙ found, fresh.0, fresh.1, tt))
        (said t
        (in_from t (f (root_in (root_of b.path) c.roots)).said (subst (λ (r : Root). Contains r.said t) (at_root root same) there))))
        (λ same. older new t.path t.x (λ s. Unit {0}) (ties.said root t (subst (λ (r : Root). Contains r.said t) same there)))
        (root_cases (root_of b.path) f c root);
    joined = λ root i there. ⊎_elim
        (λ same. ⊎_elim
        (λ old.
        let o = old.0 in
        let q = older new o.path o.x (λ s. s ≡ Some o.store)
        (ties.joined (root_of b.path) o (in_to o (root_in (root_of b.path) c.roots).joined old.1)) in
        (q.0, q.1, q.2, q.3, sym old.2 ∙ q.4, q.5 ∙ old.3, q.6 ∙ ap Some old.4))
        (λ fresh. (
          new,
          b,
          in_to new (new ∷ accesses) (inl refl),
          ap (λ (d : Act). branch_of d.uid c.tree) by_it ∙ found,
          fresh.0,
          fresh.1,
          fresh.2,
        ))
        (joined i (in_from i (f (root_in (root_of b.path) c.roots)).joined
        (subst (λ (r : Root). Contains r.joined i) (at_root root same) there))))
        (λ same. older new i.path i.x (λ s. s ≡ Some i.store) (ties.joined root i (subst (λ (r : Root). Contains r.joined i) same there)))
        (root_cases (root_of b.path) f c root);
  }
    where
      after : List (ℕ × Root)
      after = let v = on_root (root_of b.path) f c in v.roots

      at_root : (root : Uid) → (((root_of b.path).num ≡ root.num) × (root_in root after ≡ f (root_in root c.roots))) →
          root_in root after ≡ f (root_in (root_of b.path) c.roots)
      at_root root same = same.1 ∙ ap (λ n. f (unwrap_or (at_number n c.roots) no_root)) (sym same.0)

      its_own : HasNoted new.store new.x (uids_of b.path) (f (root_in (root_of b.path) c.roots)) →
          HasNoted new.store new.x (uids_of b.path) (root_in (root_of b.path) after)
      its_own h = subst (HasNoted new.store new.x (uids_of b.path))
          (sym (ap (λ o. unwrap_or o no_root) (put_same (root_of b.path).num (f (root_in (root_of b.path) c.roots)) c.roots))) h

      still : (s : Option ℕ) (y : ℕ) (us : List Uid) (root : Uid) → HasNoted s y us (root_in root c.roots) →
          HasNoted s y us (root_in root after)
      still s y us root h = ⊎_elim (λ same. subst (HasNoted s y us) (sym same.1) (keeps s y us (root_in root c.roots) h))
          (λ same. subst (HasNoted s y us) (sym same) h) (root_cases (root_of b.path) f c root)

  -- the answer to a call
  pub ties_said : (s : Option ℕ) → Ties acts (record { act = a; x = x; store = s } ∷ accesses) c.tree
      (let v = on_root (root_of b.path) (with_said (record { path = uids_of b.path; x = x })) c in v.roots)
  ties_said s = noted_more (record { act = a; x = x; store = s }) refl (with_said new) (here s) keeps
      (λ t i.
      ⊎_elim (λ old. inl old) (λ same. inr (ap (λ (y : Said). y.path) (sym same), ap (λ (y : Said). y.x) same)) (said_new new r t i))
      (λ i j. inl (i, subst (λ js. In i js) (said_joined new r) j, refl, refl, refl))
    where
      new : Said
      new = record { path = uids_of b.path; x = x }

      r : Root
      r = root_in (root_of b.path) c.roots

      has : HasSaid x (uids_of b.path) (with_said new r)
      has = ⊎_elim
          (λ i. (new, in_to new (with_said new r).said i, refl, refl))
          (λ (t, old, i, last, obj). (
            t,
            in_to t (with_said new r).said i,
            same_path new.path t.path t.x (λ z. Unit {0}) refl last (ties.said (root_of b.path) t (in_to t r.said old)),
            sym obj,
          ))
          (said_there new r)

      here : (o : Option ℕ) → HasNoted o x (uids_of b.path) (with_said new r)
      here None = has
      here (Some n) = inr has

      one : (y : ℕ) (us : List Uid) (q : Root) → HasSaid y us q → HasSaid y us (with_said new q)
      one y us q (t, there, is, at) = (t, in_to t (with_said new q).said (said_kept new q t (in_from t q.said there)), is, at)

      keeps : (o : Option ℕ) (y : ℕ) (us : List Uid) (q : Root) → HasNoted o y us q → HasNoted o y us (with_said new q)
      keeps None y us q h = one y us q h
      keeps (Some n) y us q (inl (j, there, path, obj, store)) =
          inl (j, subst (λ js. Contains js j) (sym (said_joined new q)) there, path, obj, store)
      keeps (Some n) y us q (inr h) = inr (one y us q h)

  -- the answer to an include
  pub ties_joined : (n : ℕ) (st : ObjectState) → Ties acts (record { act = a; x = x; store = Some n } ∷ accesses) c.tree
      (let v = on_root (root_of b.path) (with_join (record { path = uids_of b.path; x = x; store = n; loaded = st })) c in v.roots)
  ties_joined n st = noted_more (record { act = a; x = x; store = Some n }) refl (with_join new) has keeps (λ t i. inl i)
      (λ i j. ⊎_elim (λ old. inl old) (λ (p, o, s). inr (sym p, o, ap Some s)) (join_new new r.joined i j))
    where
      new : Joined
      new = record { path = uids_of b.path; x = x; store = n; loaded = st }

      r : Root
      r = root_in (root_of b.path) c.roots

      has : HasNoted (Some n) x (uids_of b.path) (with_join new r)
      has = let f = join_there new r.joined in
          inl (
            f.0,
            in_to f.0 (joined_with new r.joined) f.1,
            ⊎_elim (λ same. same) (λ (i, there, path, last). sym path ∙ same_path new.path i.path i.x (λ s. s ≡ Some i.store) refl
                (last ∙ ap last_uid (sym path)) (ties.joined (root_of b.path) i (in_to i r.joined there))) f.4,
            f.2,
            f.3,
          )

      keeps : (o : Option ℕ) (y : ℕ) (us : List Uid) (q : Root) → HasNoted o y us q → HasNoted o y us (with_join new q)
      keeps None y us q h = h
      keeps (Some m) y us q (inl (j, there, path, obj, store)) = let f = join_kept new q.joined j (in_from j q.joined there) in
          inl (f.0, in_to f.0 (joined_with new q.joined) f.1, f.2 ∙ path, f.3 ∙ obj, f.4 ∙ store)
      keeps (Some m) y us q (inr h) = inr h

-- ---- a coordinator that starts

-- who is on a path began
pub on_path : (acts : List Act) (l : List ℕ) (x : Act) → In x (path acts l) → In x acts
on_path [] l x i = absurd i
on_path (a ∷ acts) l x i = by (bytes_eq a.label l) i (λ m. on_path acts m x)
  where
    up : (o : Option (List ℕ)) (k : Kind) → In x (upwards o k (path acts)) → ((m : List ℕ) → In x (path acts m) → In x acts) → In x acts
    up None k j ih = absurd j
    up (Some p) kind.Independent j ih = absurd j
    up (Some p) kind.Top j ih = ih p j
    up (Some p) kind.Serial j ih = ih p j
    up (Some p) kind.Nested j ih = ih p j
    up (Some p) kind.Constituent j ih = ih p j

    last : (xs : List Act) → In x (xs ++ a ∷ []) → In x xs ⊎ (a ≡ x)
    last [] (inl is) = inr is
    last [] (inr j) = absurd j
    last (y ∷ ys) (inl is) = inl (inl is)
    last (y ∷ ys) (inr j) = ⊎_elim (λ old. inl (inr old)) (λ new. inr new) (last ys j)

    by : (b : Bool) → In x (cond b (path_in acts a) (path acts l)) → ((m : List ℕ) → In x (path acts m) → In x acts) → In x (a ∷ acts)
    by true j ih = ⊎_elim (λ above. inr (up a.parent a.kind above ih)) (λ same. inl same) (last (upwards a.parent a.kind (path acts)) j)
    by false j ih = inr (ih l j)

pub on_uids : (xs : List Act) (u : Uid) → is_on (uids xs) u ≡ true → (x : Act) × In x xs × (x.uid ≡ u)
on_uids [] u on = absurd (cc on)
on_uids (x ∷ xs) u on = ⊎_elim (λ same. (x, inl refl, uid_is x.uid u same)) (λ rest. let f = on_uids xs u rest in
    (f.0, inr f.1, f.2)) (or_cases (uid_eq x.uid u) (is_on (uids xs) u) on)

-- nothing that began is of its incarnation
pub ties_new : (acts : List Act) (accesses : List Access) (t : Tree) → ((u : Uid) (b : Branch) → branch_of u t ≡ Some b → ⊥) →
    ((a : Act) → In a acts → is_own a.uid t ≡ true → ⊥) → Ties acts accesses t []
ties_new acts accesses t none off = record {
  paths = λ a b there found. absurd (none a.uid b found);
  homes = λ a u there on own. let x = on_uids (path acts a.label) u on in
      absurd (off x.0 (on_path acts a.label x.0 x.1) (ap (λ w. is_own w t) x.2 ∙ own));
  noted = λ a b there found. absurd (none (let c = a.act in c.uid) b found);
  said = λ root s there. absurd (in_from s [] there);
  joined = λ root j there. absurd (in_from j [] there);
}
