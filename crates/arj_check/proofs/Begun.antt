-- The actions of a readable journal began by the rules.
use Rattle.std.proofs.Common.{◌≡◌, ◌≢◌, ℕ, ◌+◌, List, [], ◌∷◌, ◌++◌, length, Bool, true, false, cond, ◌||◌, nat_le, Option, Some, None}
use Rattle.std.proofs.Common.{slice_get, refl, sym, ◌∙◌, ap, subst}
use Rattle.std.specs.Prelude.{not, is_some}
use Rattle.std.specs.List.{AllByRecursion, list_any}
use Rattle.std.specs.Option.{option_map}
use Rattle.std.specs.Str.{bytes_eq}
use Rattle.std.proofs.lemmas.List.{append-nil, append_assoc, length_push}
use Rattle.arj_base.proofs.Uids.{uid_is, uid_same}
use Rattle.arj_base.specs.Uid.{uid_eq}
use Rattle.arj_base.specs.declared.uid.Uid.{Uid}
use Rattle.arj_journal.specs.declared.body.Body.{Body}
use Rattle.arj_journal.specs.declared.body.Body.TheVariants as body
use Rattle.arj_journal.specs.declared.body.Kind.{Kind}
use Rattle.arj_journal.specs.declared.body.Kind.TheVariants as kind
use Rattle.arj_journal.specs.declared.body.Line.{Line}
use Rattle.arj_journal.specs.declared.header.Header.{Header}
use Rattle.arj_model.specs.Actions.{Act, Begun, Placed, act_in, acts, acts_after, acts_from, begun_of, numbered, path, path_in, put, read}
use Rattle.arj_model.specs.Actions.{top_in, upwards}
use Rattle.arj_model.proofs.Read.{acts-append}
use Rattle.arj_law.proofs.Common.{never}
use Rattle.arj_reading.specs.Readable.{Readable, act_by, begin_rule, body_rule, broken_from, has_parent, is_parent_of, is_top, known}
use Rattle.arj_reading.specs.Readable.{line_rule, met, named, named_as, unless}
use Rattle.arj_reading.specs.Reading.{above_in, action_of, actions_of}
use Rattle.arj_reading.specs.declared.action.Action.{Action}
use Rattle.arj_reading.specs.declared.rule.Rule.{Rule}
use Rattle.arj_reading.specs.declared.rule.Rule.TheVariants as rule
use Rattle.arj_reading.proofs.Numbers.{AreNumbered, get_last, get_stays, length_actions, path_some}
use Rattle.arj_replay.specs.Orders.{paths}
use Rattle.arj_check.proofs.Calls.{neither, none_broken}
use Rattle.arj_check.proofs.Paths.{is_serial_alone, length_paths, same_top, top_behind}
use Rattle.arj_start.specs.Kinds.{is_serial}

-- what a `began` line said of an action
abbrev pub begun_act : Act → Begun
begun_act a = record { label = a.label; kind = a.kind; uid = a.uid; parent = a.parent }

-- Each action kept the rules as it began.
abbrev pub BeganWell : List Act → Type 0
BeganWell [] = Unit {0}
BeganWell (a ∷ older) = (begin_rule older (begun_act a) ≡ None) × BeganWell older

well_after : (header : Header) (before : List Line) (b : Body) → body_rule header (met before) b ≡ None → BeganWell (acts before) →
    BeganWell (acts_after (acts before) b)
well_after header before (body.Began l k u p) rule w = (rule, w)
well_after header before b rule w = w

-- a line that breaks no rule, by what it says
pub body_keeps : (header : Header) (before : List Line) (last : ℕ) (line : Line) → line_rule header (met before) last line ≡ None →
    body_rule header (met before) line.body ≡ None
body_keeps header before last line e = (neither (unless (nat_le last line.event) rule.Order) (body_rule header (met before) line.body) e).1

-- Something holds of each item that is read of a readable journal, where it holds of the item of each line.
pub all_along : {A : Type 0} (header : Header) (lines : List Line) (f : List Act → Body → Option A) (P : Placed A → Type 0)
    → ((before : List Line) (line : Line) (rest : List Line) (a : A) → lines ≡ before ++ line ∷ rest →
    body_rule header (met before) line.body ≡ None → BeganWell (acts before) → f (acts before) line.body ≡ Some a →
    P (record { at = length before; it = a }))
    → (before rest : List Line) (last : ℕ) → lines ≡ before ++ rest → BeganWell (acts before) → broken_from header before last rest ≡ None →
    AllByRecursion P (read f (acts before) (length before) rest)
all_along header lines f P one before [] last e w b = tt
all_along {A} header lines f P one before (line ∷ rest) last e w b =
    by (f (acts before) line.body) refl
    (all_along header lines f P one (before ++ line ∷ []) rest line.event (e ∙ sym (append_assoc before (line ∷ []) rest)) (subst BeganWell (sym (acts-append [] before line)) (well_after header before line.body keeps w)) both.1)
  where
    both : (line_rule header (met before) last line ≡ None) × (broken_from header (before ++ line ∷ []) line.event rest ≡ None)
    both = none_broken (length before) (line_rule header (met before) last line) (broken_from header (before ++ line ∷ []) line.event rest) b

    keeps : body_rule header (met before) line.body ≡ None
    keeps = body_keeps header before last line both.0

    there : AllByRecursion P (read f (acts (before ++ line ∷ [])) (length (before ++ line ∷ [])) rest) →
        AllByRecursion P (read f (acts_after (acts before) line.body) (length before + 1) rest)
    there next = subst (λ us. AllByRecursion P (read f us (length before + 1) rest)) (acts-append [] before line) (subst (λ n. AllByRecursion P (read f (acts (before ++ line ∷ [])) n rest)) (length_push before line) next)

    by : (o : Option A) → f (acts before) line.body ≡ o →
        AllByRecursion P (read f (acts (before ++ line ∷ [])) (length (before ++ line ∷ [])) rest) →
        AllByRecursion P (put (length before) o (read f (acts_after (acts before) line.body) (length before + 1) rest))
    by None is next = there next
    by (Some a) is next = (one before line rest a e keeps w is, there next)

well_along : (header : Header) (before rest : List Line) (last : ℕ) → BeganWell (acts before) → broken_from header before last rest ≡ None →
    BeganWell (acts (before ++ rest))
well_along header before [] last w b = subst (λ ls. BeganWell (acts ls)) (sym (append-nil before)) w
well_along header before (line ∷ rest) last w b =
    let both : (line_rule header (met before) last line ≡ None) × (broken_from header (before ++ line ∷ []) line.event rest ≡ None) =
    none_broken (length before) (line_rule header (met before) last line) (broken_from header (before ++ line ∷ []) line.event rest) b in
    let keeps = body_keeps header before last line both.0 in
    subst (λ ls. BeganWell (acts ls)) (append_assoc before (line ∷ []) rest)
    (well_along header (before ++ line ∷ []) rest line.event (subst BeganWell (sym (acts-append [] before line)) (well_after header before line.body keeps w)) both.1)

pub begun_well : (header : Header) (lines : List Line) → Readable header lines → BeganWell (acts lines)
begun_well header lines r = well_along header [] lines 0 tt r

-- The rules of one beginning.

unless_not : (t : Bool) (r : Rule) → unless t r ≡ None → t ≡ true
unless_not true r e = refl
unless_not false r e = absurd (cc e)

not_some : {A : Type 0} (o : Option A) → not (is_some o) ≡ true → o ≡ None
not_some None e = refl
not_some (Some a) e = never false e refl

none_named : {A B : Type 0} (f : A → B) (o : Option A) → option_map f o ≡ None → o ≡ None
none_named f None e = refl
none_named f (Some a) e = absurd (cc e)

pub new_uid : (older : List Act) (a : Act) → begin_rule older (begun_act a) ≡ None → act_by older a.uid ≡ None
new_uid older a e =
    let one = neither (unless (not (is_some (named older a.label))) rule.NewLabel) _ e in
    let two = neither (unless (not (is_some (known older a.uid))) rule.NewUid) _ one.1 in
    none_named named_as (act_by older a.uid) (not_some (known older a.uid) (unless_not (not (is_some (known older a.uid))) rule.NewUid two.0))

parent_right : (older : List Act) (a : Act) → begin_rule older (begun_act a) ≡ None → has_parent older a.kind a.parent ≡ true
parent_right older a e =
    let one = neither (unless (not (is_some (named older a.label))) rule.NewLabel) _ e in
    let two = neither (unless (not (is_some (known older a.uid))) rule.NewUid) _ one.1 in
    let three = neither (unless (has_parent older a.kind a.parent) rule.Parent) _ two.1 in
    unless_not (has_parent older a.kind a.parent) rule.Parent three.0

-- Tops.

-- the one action of a path is that of the label
path_one : (us : List Act) (l : List ℕ) (s : Act) → path us l ≡ s ∷ [] → act_in us l ≡ Some s
path_one [] l s e = absurd (cc e)
path_one (b ∷ older) l s e = by (path_one older l s) (bytes_eq b.label l) e
  where
    only : (q : List Act) → q ++ b ∷ [] ≡ s ∷ [] → b ≡ s
    only [] g = cc g
    only (x ∷ []) g = absurd (cc g)
    only (x ∷ y ∷ q) g = absurd (cc g)

    by : (path older l ≡ s ∷ [] → act_in older l ≡ Some s) → (t : Bool) → cond t (path_in older b) (path older l) ≡ s ∷ [] →
        cond t (Some b) (act_in older l) ≡ Some s
    by ih true g = ap Some (only (upwards b.parent b.kind (path older)) g)
    by ih false g = ih g

parent_is : (us : List Act) (l : List ℕ) (k : Kind) → is_parent_of k (named us l) ≡ true → (a : Act) × (act_in us l ≡ Some a)
parent_is us l k e = by (act_in us l) refl e
  where
    by : (o : Option Act) → act_in us l ≡ o → is_parent_of k (option_map named_as o) ≡ true → (a : Act) × (act_in us l ≡ Some a)
    by None is g = never false g refl
    by (Some a) is g = (a, is)

-- an action alone on its path that isn't serializing is a top
kind_alone : (older : List Act) (k : Kind) (p : Option (List ℕ)) → has_parent older k p ≡ true → upwards p k (path older) ≡ [] →
    is_serial k ≡ false → is_top k ≡ true
kind_alone older kind.Top None h u s = refl
kind_alone older kind.Serial None h u s = never true refl s
kind_alone older kind.Nested None h u s = never false h refl
kind_alone older kind.Independent None h u s = refl
kind_alone older kind.Constituent None h u s = refl
kind_alone older kind.Top (Some l) h u s = refl
kind_alone older kind.Serial (Some l) h u s = never true refl s
kind_alone older kind.Independent (Some l) h u s = refl
kind_alone older kind.Constituent (Some l) h u s = refl
kind_alone older kind.Nested (Some l) h u s = let a = parent_is older l kind.Nested h in absurd (path_some older l a.0 a.1 u)

-- an action behind a serializing action alone is a top
kind_behind : (older : List Act) (k : Kind) (p : Option (List ℕ)) → has_parent older k p ≡ true → (q : List Act) →
    upwards p k (path older) ≡ q → is_serial_alone q ≡ true → is_top k ≡ true
kind_behind older kind.Top p h q u s = refl
kind_behind older kind.Independent p h q u s = refl
kind_behind older kind.Constituent p h q u s = refl
kind_behind older kind.Serial None h [] u s = never false s refl
kind_behind older kind.Serial None h (x ∷ q) u s = absurd (cc u)
kind_behind older kind.Serial (Some l) h q u s = never false h refl
kind_behind older kind.Nested None h q u s = never false h refl
kind_behind older kind.Nested (Some l) h [] u s = never false s refl
kind_behind older kind.Nested (Some l) h (x ∷ y ∷ q) u s = never false s refl
kind_behind older kind.Nested (Some l) h (x ∷ []) u s =
    by (is_serial x.kind) s (subst (λ o. is_parent_of kind.Nested (option_map named_as o) ≡ true) (path_one older l x u) h)
  where
    by : (b : Bool) → b ≡ true → not b ≡ true → is_top kind.Nested ≡ true
    by true e g = never false g refl
    by false e g = never false e refl

-- What is known of a top among these actions.
pub record IsTop (us : List Act) (t : Act) : Type 0 where
  pub kind : is_top t.kind ≡ true
  pub path : List Act
  pub there : slice_get (paths us) t.id ≡ Some path
  pub own : top_in path ≡ Some t
  pub uid : act_by us t.uid ≡ Some t
  pub action : Action
  pub kept : slice_get (actions_of us) t.id ≡ Some action
  pub same : action.kind ≡ t.kind

-- one action more
top_older : (a : Act) (older : List Act) (t : Act) → act_by older a.uid ≡ None → IsTop older t → IsTop (a ∷ older) t
top_older a older t new top = record {
  kind = top.kind;
  path = top.path;
  there = get_stays (paths older) (path_in older a) top.path t.id top.there;
  own = top.own;
  uid = by (uid_eq a.uid t.uid) refl;
  action = top.action;
  kept = get_stays (actions_of older) (action_of a (above_in older a.kind a.parent) (path_in older a)) top.action t.id top.kept;
  same = top.same;
}
  where
    by : (b : Bool) → uid_eq a.uid t.uid ≡ b → cond b (Some a) (act_by older t.uid) ≡ Some t
    by true e = let none : None ≡ Some t = sym new ∙ ap (act_by older) (uid_is a.uid t.uid e) ∙ top.uid in absurd (cc none)
    by false e = top.uid

-- the newest action, where it is a top
top_newest : (a : Act) (older : List Act) → a.id ≡ length older → is_top a.kind ≡ true → top_in (path_in older a) ≡ Some a →
    IsTop (a ∷ older) a
top_newest a older id kind own = record {
  kind = kind;
  path = path_in older a;
  there = get_last (paths older) (path_in older a) a.id (id ∙ sym (length_paths older));
  own = own;
  uid = (λ i. cond (uid_same a.uid i) (Some a) (act_by older a.uid));
  action = action_of a (above_in older a.kind a.parent) (path_in older a);
  kept = get_last (actions_of older) (action_of a (above_in older a.kind a.parent) (path_in older a)) a.id (id ∙ sym (length_actions older));
  same = refl;
}

-- the tops of the paths of those begun before it
abbrev HaveTops : List Act → Type 0
HaveTops older = (m : List ℕ) (x : Act) → top_in (path older m) ≡ Some x → IsTop older x

-- the top of the newest action's path
newest_top : (a : Act) (older : List Act) → a.id ≡ length older → begin_rule older (begun_act a) ≡ None → HaveTops older → (t : Act) →
    top_in (path_in older a) ≡ Some t → IsTop (a ∷ older) t
newest_top a older id rule ih t g = found (upwards a.parent a.kind (path older)) refl g
  where
    new : act_by older a.uid ≡ None
    new = new_uid older a rule

    own : a ≡ t → is_top a.kind ≡ true → top_in (path_in older a) ≡ Some a → IsTop (a ∷ older) t
    own is k e = subst (IsTop (a ∷ older)) is (top_newest a older id k e)

    above : (p : Option (List ℕ)) (k : Kind) → (x : Act) → top_in (upwards p k (path older)) ≡ Some x → IsTop older x
    above None k x e = absurd (cc e)
    above (Some m) kind.Independent x e = absurd (cc e)
    above (Some m) kind.Top x e = ih m x e
    above (Some m) kind.Nested x e = ih m x e
    above (Some m) kind.Serial x e = ih m x e
    above (Some m) kind.Constituent x e = ih m x e

    right : has_parent older a.kind a.parent ≡ true
    right = parent_right older a rule

    alone : (b : Bool) → is_serial a.kind ≡ b → upwards a.parent a.kind (path older) ≡ [] → cond b None (Some a) ≡ Some t →
        IsTop (a ∷ older) t
    alone true s u e = absurd (cc e)
    alone false s u e =
        own (cc e) (kind_alone older a.kind a.parent right u s) (ap (λ q. top_in (q ++ a ∷ [])) u ∙ (λ i. cond (s i) None (Some a)))

    behind : (q : List Act) → upwards a.parent a.kind (path older) ≡ q → q ≢ [] → (b : Bool) → is_serial_alone q ≡ b →
        top_in (q ++ a ∷ []) ≡ Some t → IsTop (a ∷ older) t
    behind q u some true s e =
        let top = top_behind q a some s in
        let is : Some a ≡ Some t = sym top.0 ∙ e in
        own (cc is) (kind_behind older a.kind a.parent right q u s) (ap (λ r. top_in (r ++ a ∷ [])) u ∙ top.0)
    behind q u some false s e =
        let same = same_top q a some s in
        let is : Some same.act ≡ Some t = sym same.top ∙ e in
        let it : same.act ≡ t = cc is in
        top_older a older t new (subst (IsTop older) it (above a.parent a.kind same.act (ap top_in u ∙ same.own)))

    found : (q : List Act) → upwards a.parent a.kind (path older) ≡ q → top_in (q ++ a ∷ []) ≡ Some t → IsTop (a ∷ older) t
    found [] u e = alone (is_serial a.kind) refl u e
    found (x ∷ q) u e = behind (x ∷ q) u (λ none. cc none) (is_serial_alone (x ∷ q)) refl e

-- the top of each path
pub tops_stand : (us : List Act) → AreNumbered us → BeganWell us → (l : List ℕ) (t : Act) → top_in (path us l) ≡ Some t → IsTop us t
tops_stand [] h w l t e = absurd (cc e)
tops_stand (a ∷ older) h w l t e = by (tops_stand older h.1 w.1) (bytes_eq a.label l) e
  where
    by : HaveTops older → (b : Bool) → top_in (cond b (path_in older a) (path older l)) ≡ Some t → IsTop (a ∷ older) t
    by ih true g = newest_top a older h.0 w.0 ih t g
    by ih false g = top_older a older t (new_uid older a w.0) (ih l t g)

-- Later lines.

pub acts_on : (us : List Act) (xs ys : List Line) → acts_from us (xs ++ ys) ≡ acts_from (acts_from us xs) ys
acts_on us [] ys = refl
acts_on us (x ∷ xs) ys = acts_on (acts_after us x.body) xs ys

well_before : (us : List Act) (ls : List Line) → BeganWell (acts_from us ls) → BeganWell us
well_before us [] w = w
well_before us (l ∷ ls) w = by (begun_of l.body) (well_before (acts_after us l.body) ls w)
  where
    by : (o : Option Begun) → BeganWell (numbered us o) → BeganWell us
    by None v = v
    by (Some b) v = v.1

pub top_later : (us : List Act) (ls : List Line) (t : Act) → BeganWell (acts_from us ls) → IsTop us t → IsTop (acts_from us ls) t
top_later us [] t w top = top
top_later us (l ∷ ls) t w top = top_later (acts_after us l.body) ls t w (by (begun_of l.body) (well_before (acts_after us l.body) ls w))
  where
    by : (o : Option Begun) → BeganWell (numbered us o) → IsTop (numbered us o) t
    by None v = top
    by (Some b) v =
        top_older (record {
          id = length us;
          label = b.label;
          kind = b.kind;
          uid = b.uid;
          parent =
              b.parent;
        }) us t (new_uid us (record { id = length us; label = b.label; kind = b.kind; uid = b.uid; parent = b.parent }) v.0) top

-- a Uid is of its action, whatever comes later
pub uid_stays : (us : List Act) (ls : List Line) (u : Uid) (a : Act) → BeganWell (acts_from us ls) → act_by us u ≡ Some a →
    act_by (acts_from us ls) u ≡ Some a
uid_stays us [] u a w e = e
uid_stays us (l ∷ ls) u a w e = uid_stays (acts_after us l.body) ls u a w (by (begun_of l.body) (well_before (acts_after us l.body) ls w))
  where
    by : (o : Option Begun) → BeganWell (numbered us o) → act_by (numbered us o) u ≡ Some a
    by None v = e
    by (Some b) v = from (uid_eq b.uid u) refl
      where
        n : Act
        n = record { id = length us; label = b.label; kind = b.kind; uid = b.uid; parent = b.parent }

        from : (t : Bool) → uid_eq b.uid u ≡ t → cond t (Some n) (act_by us u) ≡ Some a
        from true is = let none : None ≡ Some a = sym (new_uid us n v.0) ∙ ap (act_by us) (uid_is b.uid u is) ∙ e in absurd (cc none)
        from false is = e

-- an action is kept at its number, whatever comes later
pub actions_stay : (us : List Act) (ls : List Line) (i : ℕ) (a : Action) → slice_get (actions_of us) i ≡ Some a →
    slice_get (actions_of (acts_from us ls)) i ≡ Some a
actions_stay us [] i a e = e
actions_stay us (l ∷ ls) i a e = actions_stay (acts_after us l.body) ls i a (by (begun_of l.body))
  where
    by : (o : Option Begun) → slice_get (actions_of (numbered us o)) i ≡ Some a
    by None = e
    by (Some b) =
        let n : Act =
        record {
          id = length us;
          label = b.label;
          kind = b.kind;
          uid = b.uid;
          parent =
              b.parent;
        } in get_stays (actions_of us) (action_of n (above_in us n.kind n.parent) (path_in us n)) a i e

-- what is read of some lines is there whatever comes later
pub read_stays : {A : Type 0} (f : List Act → Body → Option A) (g : Placed A → Bool) (us : List Act) (n : ℕ) (xs ys : List Line) →
    list_any g (read f us n xs) ≡ true → list_any g (read f us n (xs ++ ys)) ≡ true
read_stays f g us n [] ys e = never false e refl
read_stays {A} f g us n (x ∷ xs) ys e = by (read_stays f g (acts_after us x.body) (n + 1) xs ys) (f us x.body) e
  where
    Rest : Type 0
    Rest = list_any g (read f (acts_after us x.body) (n + 1) xs) ≡ true →
        list_any g (read f (acts_after us x.body) (n + 1) (xs ++ ys)) ≡ true

    or_on : (b c d : Bool) → (c ≡ true → d ≡ true) → (b || c) ≡ true → (b || d) ≡ true
    or_on true c d h k = refl
    or_on false c d h k = h k

    by : Rest → (o : Option A) → list_any g (put n o (read f (acts_after us x.body) (n + 1) xs)) ≡ true →
        list_any g (put n o (read f (acts_after us x.body) (n + 1) (xs ++ ys))) ≡ true
    by ih None h = ih h
    by ih (Some a) h = or_on (g (record { at = n; it = a })) _ _ ih h
