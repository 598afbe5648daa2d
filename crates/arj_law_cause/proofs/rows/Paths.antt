-- The path of what was asked is that of the action's label, as the journal has it.
use Rattle.arj_law_parts.proofs.Words
use Words.{◌≡◌, ◌∙◌, ◌++◌, ℕ, Bool, true, false, cond, List, [], ◌∷◌, length, take, Option, Some, None, refl, sym, ap, subst, arith}
use Words.{option_map, bytes_eq, bytes_eq-Decides, in_find, in_from, uid_eq, uid_is, uid_same, uids_of}
use Words.{Body, Line, is_serial, last_uid, name, tops_of, top_of, top_path, Contains}
use Words.body
use Rattle.arj_law_serial.proofs.Terms
use Terms.{Act, Action, AreAlike, AreBegun, AreDistinct, AreFormed, act_in, act_of, acts, acts_after, acts_from, acts_more, any_in, path}
use Terms.{path_in}
use Terms.{path_by, path_some, uids}
use Rattle.arj_law_serial.proofs.order.Paths.{has_top, well}
use Rattle.arj_law_serial.proofs.tables.Holders.{path_fits}
use Rattle.arj_model.specs.Actions.{top_in, tops_in}
use Rattle.arj_model.specs.CauseSpans.{top_uids}

never : {P : Type 0} {b : Bool} → b ≡ true → b ≡ false → P
never holds fails = let no_way : true ≡ false = sym holds ∙ fails in absurd (cc no_way)

none_is : {A P : Type 0} {x : A} → None ≡ Some x → P
none_is {A} {P} {x} is = let no_way : ◌≡◌ {A = Option A} None (Some x) = is in absurd (cc no_way)

pub some_is : {A : Type 0} {a b : A} → Some a ≡ Some b → a ≡ b
some_is {A} {a} {b} is = let k : ◌≡◌ {A = Option A} (Some a) (Some b) = is in cc

-- ---- labels

-- the path of a label is that of its action
pub label_path : (xs : List Act) → AreDistinct xs → (l : List ℕ) (a : Act) → act_in xs l ≡ Some a → path xs l ≡ path_by xs a.uid
label_path [] distinct l a named = none_is named
label_path (x ∷ xs) distinct l a named = by (bytes_eq x.label l) named (label_path xs distinct.3 l a)
  where
    by : (b : Bool) → cond b (Some x) (act_in xs l) ≡ Some a → (act_in xs l ≡ Some a → path xs l ≡ path_by xs a.uid) →
        cond b (path_in xs x) (path xs l) ≡ cond (uid_eq x.uid a.uid) (path_in xs x) (path_by xs a.uid)
    by true is ih =
        sym (λ i. cond ((ap (λ (z : Act). uid_eq x.uid z.uid) (sym (some_is is)) ∙ uid_same x.uid) i) (path_in xs x) (path_by xs a.uid))
    by false is ih = ih is ∙ sym (λ i. cond (other (uid_eq x.uid a.uid) refl i) (path_in xs x) (path_by xs a.uid))
      where
        other : (b : Bool) → uid_eq x.uid a.uid ≡ b → uid_eq x.uid a.uid ≡ false
        other false e = e
        other true e = never (any_in (λ (z : Act). uid_eq z.uid x.uid) a xs (in_find (λ (z : Act). bytes_eq z.label l) a xs is).0
            (ap (λ w. uid_eq w x.uid) (sym (uid_is x.uid a.uid e)) ∙ uid_same x.uid)) distinct.2

-- who isn't there has none
pub no_path : (xs : List Act) (l : List ℕ) → act_in xs l ≡ None → path xs l ≡ []
no_path [] l none = refl
no_path (x ∷ xs) l none = by (bytes_eq x.label l) none (no_path xs l)
  where
    by : (b : Bool) → cond b (Some x) (act_in xs l) ≡ None → (act_in xs l ≡ None → path xs l ≡ []) → cond b (path_in xs x) (path xs l) ≡ []
    by true is ih = none_is (sym is)
    by false is ih = ih is

-- ---- more lines

older_distinct : (xs : List Act) (ls : List Line) → AreDistinct (acts_from xs ls) → AreDistinct xs
older_distinct xs [] distinct = distinct
older_distinct xs (l ∷ ls) distinct = by l.body (older_distinct (acts_after xs l.body) ls distinct)
  where
    by : (b : Body) → AreDistinct (acts_after xs b) → AreDistinct xs
    by (body.Began m k u p) more = more.3
    by b more = more

-- a label's path stays as lines come
pub path_stays : (xs : List Act) (ls : List Line) → AreDistinct (acts_from xs ls) → (l : List ℕ) (a : Act) → act_in xs l ≡ Some a →
    path (acts_from xs ls) l ≡ path xs l
path_stays xs [] distinct l a named = refl
path_stays xs (line ∷ ls) distinct l a named =
    by line.body refl (older_distinct (acts_after xs line.body) ls distinct) (path_stays (acts_after xs line.body) ls distinct l a)
  where
    rest : (b : Body) → line.body ≡ b → act_in (acts_after xs b) l ≡ Some a → path (acts_after xs b) l ≡ path xs l →
        (act_in (acts_after xs line.body) l ≡ Some a →
        path (acts_from (acts_after xs line.body) ls) l ≡ path (acts_after xs line.body) l) →
        path (acts_from (acts_after xs line.body) ls) l ≡ path xs l
    rest b is found same ih = ih (ap (λ z. act_in (acts_after xs z) l) is ∙ found) ∙ ap (λ z. path (acts_after xs z) l) is ∙ same

    by : (b : Body) → line.body ≡ b → AreDistinct (acts_after xs b) → (act_in (acts_after xs line.body) l ≡ Some a →
        path (acts_from (acts_after xs line.body) ls) l ≡ path (acts_after xs line.body) l) →
        path (acts_from (acts_after xs line.body) ls) l ≡ path xs l
    by (body.Began m k u p) is more ih = new (bytes_eq (name m) l) refl
      where
        new : (c : Bool) → bytes_eq (name m) l ≡ c → path (acts_from (acts_after xs line.body) ls) l ≡ path xs l
        new true e = none_is (sym more.1 ∙ ap (act_in xs) ((bytes_eq-Decides (name m) l).0 e) ∙ named)
        new false e = rest (body.Began m k u p) is
            ((λ i. cond (e i) (Some (record { id = length xs; label = name m; kind = k; uid = u; parent = option_map name p }))
            (act_in xs l))
            ∙ named)
            (λ i. cond (e i) (path_in xs (record { id = length xs; label = name m; kind = k; uid = u; parent = option_map name p }))
            (path xs l)) ih
    by b is more ih = rest b is named refl ih

-- ---- tops

-- the top's Uid is the last one of the leading part
pub uid_of_top : (p : List Act) (t : Act) → top_in p ≡ Some t → t.uid ≡ last_uid (top_uids p)
uid_of_top [] t is = none_is is
uid_of_top (a ∷ []) t is = by (is_serial a.kind) is
  where
    by : (c : Bool) → cond c None (Some a) ≡ Some t → t.uid ≡ a.uid
    by true none = none_is none
    by false some = ap (λ (z : Act). z.uid) (sym (some_is some))
uid_of_top (a ∷ b ∷ rest) t is = by (is_serial a.kind) is
  where
    by : (c : Bool) → cond c (Some b) (Some a) ≡ Some t → t.uid ≡ last_uid (take (cond c 2 1) (a.uid ∷ b.uid ∷ uids rest))
    by true some = ap (λ (z : Act). z.uid) (sym (some_is some))
    by false some = ap (λ (z : Act). z.uid) (sym (some_is some))

-- ---- what was asked

module _ (begun : List Action) (all : AreBegun begun) (lines first more : List Line) (are : lines ≡ first ++ more)
    (distinct : AreDistinct (acts lines)) (alike : AreAlike begun (acts lines)) (l : List ℕ) (a : Act) (named : act_in
    (acts lines) l ≡ Some a)
    (b : Action) (there : Contains begun b) (uid : a.uid ≡ act_of b) where
  -- a path that some lines gave for the label, and that has these Uids, is the label's by all lines
  same_path : uids (path (acts first) l) ≡ uids_of b.path → path (acts first) l ≡ path (acts lines) l
  same_path its = by (act_in (acts first) l) refl
    where
      total : acts lines ≡ acts_from (acts first) more
      total = ap acts are ∙ acts_more [] first more

      by : (o : Option Act) → act_in (acts first) l ≡ o → path (acts first) l ≡ path (acts lines) l
      by None none =
          let long : 0 ≡ length (uids_of b.path) = ap (λ (ps : List Act). length (uids ps)) (sym (no_path (acts first) l none))
          ∙ ap length its in
          absurd (omega (arith, long, path_some b.path))
      by (Some c) some = sym (path_stays (acts first) more (subst AreDistinct total distinct) l c some) ∙ ap (λ xs. path xs l) (sym total)

  pub top_is : uids (path (acts first) l) ≡ uids_of b.path → top_uids (path (acts first) l) ≡ top_path b.path
  top_is its =
      let f = path_fits begun (acts lines) all alike b (in_from b begun there) in
      let tops : tops_in (path (acts first) l) ≡ tops_of b.path =
      ap tops_in (same_path its ∙ label_path (acts lines) distinct l a named ∙ ap (path_by (acts lines)) uid)
      ∙ (let z = f.actor_is in z.tops_are) in
      λ i. take (tops i) (its i)

  -- where its action isn't serializing the path has a top, which is the one of the action's path
  pub one_top : AreFormed (acts lines) → is_serial a.kind ≡ false → uids (path (acts first) l) ≡ uids_of b.path →
      (top : Act) × (top_in (path (acts first) l) ≡ Some top) × (top.uid ≡ top_of b.path)
  one_top formed plain its =
      let e = (well (acts lines) formed l).1 a named in
      let t = has_top e.before a plain in
      let there : top_in (path (acts first) l) ≡ Some t.0 = ap top_in (same_path its ∙ e.are) ∙ t.1 in
      (t.0, there, uid_of_top (path (acts first) l) t.0 there ∙ ap last_uid (top_is its))
