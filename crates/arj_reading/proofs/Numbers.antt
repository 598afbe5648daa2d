-- Actions as they are kept, by their numbers.
use Rattle.std.proofs.Common.{◌≡◌, ◌≢◌, ◌<◌, ℕ, zero, suc, ◌+◌, List, [], ◌∷◌, ◌++◌, length, Bool, true, false, cond, ◌==◌, ◌||◌, nat_lt}
use Rattle.std.proofs.Common.{Option, Some, None, slice_get, refl, sym, ◌∙◌, ap, subst, arith}
use Rattle.std.specs.Prelude.{find, is_some}
use Rattle.std.specs.List.{list_any}
use Rattle.std.specs.Option.{option_map}
use Rattle.std.specs.Str.{bytes_eq}
use Rattle.std.proofs.lemmas.Bool.Decides.{nat_tests}
use Rattle.std.proofs.lemmas.List.{length_push}
use Rattle.std.proofs.lemmas.Option.{slice_get_within}
use Rattle.arj_base.specs.Uid.{uid_eq}
use Rattle.arj_base.specs.declared.uid.Uid.{Uid}
use Rattle.arj_journal.specs.declared.body.Body.{Body}
use Rattle.arj_journal.specs.declared.body.Kind.{Kind}
use Rattle.arj_journal.specs.declared.body.Kind.TheVariants as kind
use Rattle.arj_journal.specs.declared.body.Line.{Line}
use Rattle.arj_model.specs.Actions.{Act, Begun, Placed, act_in, acts, acts_after, acts_from, begun_of, has_end, id_in, numbered, path}
use Rattle.arj_model.specs.Actions.{path_in, upwards}
use Rattle.arj_reading.specs.Readable.{act_by, known, named, named_as}
use Rattle.arj_reading.specs.Reading.{above_in, action_of, actions_of, capped, first_place}
use Rattle.arj_reading.specs.declared.action.Action.{Action}
use Rattle.arj_reading.specs.declared.named.Named.{Named}

-- an item of this number is there exactly where one has a first place
pub first_has : (es : List (Placed ℕ)) (i : ℕ) → is_some (first_place es i) ≡ has_end es i
first_has [] i = refl
first_has (e ∷ es) i = by (first_has es i) (e.it == i)
  where
    by : is_some (first_place es i) ≡ has_end es i → (b : Bool) → is_some (cond b (Some e.at) (first_place es i)) ≡ (b || has_end es i)
    by ih true = refl
    by ih false = ih

-- an item put at the end is at that place, and the others stay
pub get_push : {A : Type 0} (xs : List A) (a : A) (j : ℕ) → slice_get (xs ++ a ∷ []) j ≡ cond (j == length xs) (Some a) (slice_get xs j)
get_push [] a zero = refl
get_push [] a (suc j) = let P : Bool → Type 0 = λ b. None ≡ cond b (Some a) None in subst P (sym (apart j)) refl
  where
    apart : (i : ℕ) → (suc i == 0) ≡ false
    apart i = grind (arith, nat_tests)
get_push (x ∷ xs) a zero = let P : Bool → Type 0 = λ b. Some x ≡ cond b (Some a) (Some x) in subst P (sym (apart (length xs))) refl
  where
    apart : (i : ℕ) → (0 == suc i) ≡ false
    apart i = grind (arith, nat_tests)
get_push (x ∷ xs) a (suc j) = get_push xs a j ∙ (λ i. cond (same i) (Some a) (slice_get xs j))
  where
    same : (j == length xs) ≡ (suc j == suc (length xs))
    same = grind (arith, nat_tests)

-- what stands at a place stays there, where an item is put at the end
pub get_stays : {A : Type 0} (xs : List A) (a b : A) (j : ℕ) → slice_get xs j ≡ Some b → slice_get (xs ++ a ∷ []) j ≡ Some b
get_stays xs a b j e =
    let lt : j < length xs = slice_get_within xs j b e in
    let apart : (j == length xs) ≡ false = grind (arith, nat_tests, lt) in
    get_push xs a j ∙ (λ i. cond (apart i) (Some a) (slice_get xs j)) ∙ e

-- and the item itself is at its place
pub get_last : {A : Type 0} (xs : List A) (a : A) (j : ℕ) → j ≡ length xs → slice_get (xs ++ a ∷ []) j ≡ Some a
get_last xs a j e =
    let same : (j == length xs) ≡ true = grind (arith, nat_tests, e) in
    get_push xs a j ∙ (λ i. cond (same i) (Some a) (slice_get xs j))

-- each action's number is the count of those before it
abbrev pub AreNumbered : List Act → Type 0
AreNumbered [] = Unit {0}
AreNumbered (a ∷ older) = (a.id ≡ length older) × AreNumbered older

numbered_more : (us : List Act) (b : Body) → AreNumbered us → AreNumbered (acts_after us b)
numbered_more us b h = by (begun_of b)
  where
    by : (o : Option Begun) → AreNumbered (numbered us o)
    by None = h
    by (Some g) = (refl, h)

pub numbered_from : (us : List Act) (ls : List Line) → AreNumbered us → AreNumbered (acts_from us ls)
numbered_from us [] h = h
numbered_from us (l ∷ ls) h = numbered_from (acts_after us l.body) ls (numbered_more us l.body h)

pub length_actions : (us : List Act) → length (actions_of us) ≡ length us
length_actions [] = refl
length_actions (a ∷ older) =
    length_push (actions_of older) (action_of a (above_in older a.kind a.parent) (path_in older a)) ∙ one_more (length_actions older)
  where
    one_more : length (actions_of older) ≡ length older → length (actions_of older) + 1 ≡ length (a ∷ older)
    one_more e = omega (arith, e)

-- an action is kept at its number, with its path
abbrev pub KeptAt : List Act → Act → List Act → Type 0
KeptAt us a p = (above : Option ℕ) × (slice_get (actions_of us) a.id ≡ Some (action_of a above p))

-- the newest action is kept at its number
newest : (a : Act) (older : List Act) → a.id ≡ length older → KeptAt (a ∷ older) a (path_in older a)
newest a older e =
    (above_in older a.kind a.parent, get_last (actions_of older) (action_of a (above_in older a.kind a.parent) (path_in older a)) a.id (e ∙ sym (length_actions older)))

-- and so are those before it
older_stays : (a b : Act) (older p : List Act) → KeptAt older b p → KeptAt (a ∷ older) b p
older_stays a b older p h =
    (h.0, get_stays (actions_of older) (action_of a (above_in older a.kind a.parent) (path_in older a)) (action_of b h.0 p) b.id h.1)

-- the action with this label
pub kept_label : (us : List Act) → AreNumbered us → (l : List ℕ) (a : Act) → act_in us l ≡ Some a → KeptAt us a (path us l)
kept_label [] h l a e = absurd (cc e)
kept_label (b ∷ older) h l a e = by (kept_label older h.1 l a) (bytes_eq b.label l) e
  where
    by : (act_in older l ≡ Some a → KeptAt older a (path older l)) → (t : Bool) → cond t (Some b) (act_in older l) ≡ Some a →
        KeptAt (b ∷ older) a (cond t (path_in older b) (path older l))
    by ih true g = let same : b ≡ a = cc in subst (λ c. KeptAt (b ∷ older) c (path_in older b)) same (newest b older h.0)
    by ih false g = older_stays b a older (path older l) (ih g)

-- the action with this Uid
pub kept_uid : (us : List Act) → AreNumbered us → (u : Uid) (a : Act) → act_by us u ≡ Some a → (p : List Act) × KeptAt us a p
kept_uid [] h u a e = absurd (cc e)
kept_uid (b ∷ older) h u a e = by (kept_uid older h.1 u a) (uid_eq b.uid u) e
  where
    by : (act_by older u ≡ Some a → (p : List Act) × KeptAt older a p) → (t : Bool) → cond t (Some b) (act_by older u) ≡ Some a →
        (p : List Act) × KeptAt (b ∷ older) a p
    by ih true g = let same : b ≡ a = cc in (path_in older b, subst (λ c. KeptAt (b ∷ older) c (path_in older b)) same (newest b older h.0))
    by ih false g = let q = ih g in (q.0, older_stays b a older q.0 q.1)

-- no action has the label: its path is empty
pub path_none : (us : List Act) (l : List ℕ) → act_in us l ≡ None → path us l ≡ []
path_none [] l e = refl
path_none (b ∷ older) l e = by (path_none older l) (bytes_eq b.label l) e
  where
    by : (act_in older l ≡ None → path older l ≡ []) → (t : Bool) → cond t (Some b) (act_in older l) ≡ None →
        cond t (path_in older b) (path older l) ≡ []
    by ih true g = absurd (cc g)
    by ih false g = ih g

pub path_some : (us : List Act) (l : List ℕ) (a : Act) → act_in us l ≡ Some a → path us l ≢ []
path_some [] l a e = absurd (cc e)
path_some (b ∷ older) l a e = by (path_some older l a) (bytes_eq b.label l) e
  where
    by : (act_in older l ≡ Some a → path older l ≢ []) → (t : Bool) → cond t (Some b) (act_in older l) ≡ Some a →
        cond t (path_in older b) (path older l) ≢ []
    by ih true g = behind (upwards b.parent b.kind (path older))
      where
        behind : (p : List Act) → p ++ b ∷ [] ≢ []
        behind [] never = absurd (cc never)
        behind (q ∷ p) never = absurd (cc never)
    by ih false g = ih g

-- what a line names

abbrev pub named_here : ℕ → Option Action → Option Named
named_here n o = option_map (λ a. record { number = n; kind = a.kind }) o

-- an action that is kept at its number, as a line names it
names : (us p : List Act) (a : Act) (n : ℕ) → a.id ≡ n → KeptAt us a p → named_here n (slice_get (actions_of us) n) ≡ Some (named_as a)
names us p a n e h =
    (λ i. named_here n (slice_get (actions_of us) (sym e i))) ∙ ap (named_here n) h.1 ∙ (λ i. Some (record {
      number = sym e i;
      kind =
          a.kind;
    }))

pub by_label : (us : List Act) → AreNumbered us → (l : List ℕ) (n : ℕ) → id_in us l ≡ Some n →
    named_here n (slice_get (actions_of us) n) ≡ named us l
by_label us h l n e = by (act_in us l) refl e
  where
    by : (o : Option Act) → act_in us l ≡ o → option_map (λ a. a.id) o ≡ Some n →
        named_here n (slice_get (actions_of us) n) ≡ option_map named_as o
    by None is g = absurd (cc g)
    by (Some a) is g = names us (path us l) a n (cc g) (kept_label us h l a is)

pub by_uid : (us : List Act) → AreNumbered us → (u : Uid) (n : ℕ) → option_map (λ a. a.id) (act_by us u) ≡ Some n →
    named_here n (slice_get (actions_of us) n) ≡ known us u
by_uid us h u n e = by (act_by us u) refl e
  where
    by : (o : Option Act) → act_by us u ≡ o → option_map (λ a. a.id) o ≡ Some n →
        named_here n (slice_get (actions_of us) n) ≡ option_map named_as o
    by None is g = absurd (cc g)
    by (Some a) is g = let k = kept_uid us h u a is in names us k.0 a n (cc g) k.1

-- the path above

no_id : (us : List Act) (l : List ℕ) → id_in us l ≡ None → path us l ≡ []
no_id us l e = by (act_in us l) refl e
  where
    by : (o : Option Act) → act_in us l ≡ o → option_map (λ a. a.id) o ≡ None → path us l ≡ []
    by None is g = path_none us l is
    by (Some a) is g = absurd (cc g)

-- no action stands above
pub none_above : (us : List Act) (k : Kind) (p : Option (List ℕ)) → above_in us k p ≡ None → upwards p k (path us) ≡ []
none_above us k None e = refl
none_above us kind.Independent (Some l) e = refl
none_above us kind.Top (Some l) e = no_id us l e
none_above us kind.Nested (Some l) e = no_id us l e
none_above us kind.Serial (Some l) e = no_id us l e
none_above us kind.Constituent (Some l) e = no_id us l e

-- an action stands above: it is kept, with the path above
pub record StandsAbove (us p : List Act) (n : ℕ) : Type 0 where
  pub act : Act
  pub before : Option ℕ
  pub kept : slice_get (actions_of us) n ≡ Some (action_of act before p)
  pub some : p ≢ []

an_id : (us : List Act) → AreNumbered us → (l : List ℕ) (n : ℕ) → id_in us l ≡ Some n → StandsAbove us (path us l) n
an_id us h l n e = by (act_in us l) refl e
  where
    by : (o : Option Act) → act_in us l ≡ o → option_map (λ a. a.id) o ≡ Some n → StandsAbove us (path us l) n
    by None is g = absurd (cc g)
    by (Some a) is g =
        let k = kept_label us h l a is in
        let at : a.id ≡ n = cc g in
        record {
          act = a;
          before = k.0;
          kept = subst (λ m. slice_get (actions_of us) m ≡ Some (action_of a k.0 (path us l))) at k.1;
          some =
              path_some us l a is;
        }

pub one_above : (us : List Act) → AreNumbered us → (k : Kind) (p : Option (List ℕ)) (n : ℕ) → above_in us k p ≡ Some n →
    StandsAbove us (upwards p k (path us)) n
one_above us h k None n e = absurd (cc e)
one_above us h kind.Independent (Some l) n e = absurd (cc e)
one_above us h kind.Top (Some l) n e = an_id us h l n e
one_above us h kind.Nested (Some l) n e = an_id us h l n e
one_above us h kind.Serial (Some l) n e = an_id us h l n e
one_above us h kind.Constituent (Some l) n e = an_id us h l n e

-- the actions of a journal
pub are_numbered : (lines : List Line) → AreNumbered (acts lines)
are_numbered lines = numbered_from [] lines tt

-- what is found at the number of the action above
pub found_above : (us : List Act) → AreNumbered us → (k : Kind) (p : Option (List ℕ)) (n : ℕ) (list : List Action) (r : Option Action) →
    list ≡ actions_of us → r ≡ slice_get list n → above_in us k p ≡ Some n
    → (act : Act) × (before : Option ℕ) × (r ≡ Some (action_of act before (upwards p k (path us)))) × (upwards p k (path us) ≢ [])
found_above us h k p n list r all is e =
    let st = one_above us h k p n e in
    (st.act, st.before, is ∙ ap (λ xs. slice_get xs n) all ∙ st.kept, st.some)

-- the path of an action that stands alone
pub alone_is : (us : List Act) (a : Act) (k : Kind) (p : Option (List ℕ)) → a.kind ≡ k → a.parent ≡ p → above_in us k p ≡ None →
    action_of a None (a ∷ []) ≡ action_of a (above_in us k p) (path_in us a)
alone_is us a k p kind parent e =
    (λ i. action_of a (sym e i) (sym (none_above us k p e) i ++ a ∷ [])) ∙ (λ i. action_of a (above_in us k p) (upwards (sym parent i) (sym kind i) (path us) ++ a ∷ []))

-- and of one that stands below another
pub below_is : (us : List Act) (a : Act) (k : Kind) (p : Option (List ℕ)) (n : ℕ) → a.kind ≡ k → a.parent ≡ p → above_in us k p ≡ Some n
    → action_of a (Some n) (upwards p k (path us) ++ a ∷ []) ≡ action_of a (above_in us k p) (path_in us a)
below_is us a k p n kind parent e = (λ i. action_of a (sym e i) (upwards (sym parent i) (sym kind i) (path us) ++ a ∷ []))
