-- Lists of which the last item comes first.
use Rattle.std.proofs.Common.{◌≡◌, ◌∙◌, ◌-◌, List, Option, Some, None, slice_get, length, sym, arith, [], ◌∷◌, ◌++◌, refl, ap, true, false}
use Rattle.std.proofs.Common.{not, ◌≤◌, map, ℕ, if◌then◌else◌, append-nil}
use Rattle.std.proofs.Common.{Vec, vec_len}
use Rattle.std.proofs.lemmas.List.{map-append}
use Rattle.std.specs.declared.alloc.Global.{Global}
use Rattle.arj_text.specs.Label.{name}
use Rattle.arj_prog.specs.Listed.{before, listing_of}
use Rattle.arj_prog.specs.Listing.{Listing, End, Do, Print, If, Block, Fail, joined}
use Rattle.arj_prog.specs.declared.statements.Statement.{Statement}
use Rattle.arj_progrun.specs.Client.{Level, branch, cut, inner_of, is_none}
use Rattle.std.specs.Borrow.{Bor}
use Rattle.std.specs.Str.{bytes_eq}
use Rattle.arj_class.specs.declared.op.Answer.{Answer}
use Rattle.arj_class.specs.declared.op.Op.{Op}
use Rattle.arj_prog.specs.declared.statements.Statement.TheVariants as statement
use Rattle.arj_text.specs.Words.{answer_text}
use Rattle.arj_progrun.specs.Levels.{last_first, level_of, rest_of, stacked}
use Rattle.arj_progrun.specs.declared.level.Level.{Level as kept_level}

-- what is in two that are the same is the same
pub some_same : {A : Type 0} → (a b : A) → Some a ≡ Some b → a ≡ b
some_same {A} a b e = ap (λ (o : Option A). elim o [ None ↦ a | Some x ↦ x ]) e

pub stacked_more : (ks : List kept_level) (k : kept_level) (ls : List Level) → stacked (ks ++ k ∷ []) ls ≡ level_of k ∷ stacked ks ls
stacked_more [] k ls = refl
stacked_more (j ∷ ks) k ls = stacked_more ks k (level_of j ∷ ls)

pub stacked_some : (ks : List kept_level) (l : Level) (ls : List Level) → is_none (stacked ks (l ∷ ls)) ≡ false
stacked_some [] l ls = refl
stacked_some (k ∷ ks) l ls = stacked_some ks (level_of k) (l ∷ ls)

pub nested_some : (ks : List kept_level) → 1 ≤ length ks → true ≡ not (is_none (stacked ks []))
nested_some [] h = absurd (omega (arith, h))
nested_some (k ∷ ks) h = ap not (sym (stacked_some ks (level_of k) []))

-- the last of them
abbrev last_or : kept_level → List kept_level → kept_level
last_or k [] = k
last_or k (j ∷ js) = last_or j js

get_last : (k : kept_level) (ks : List kept_level) → slice_get (k ∷ ks) (length ks) ≡ Some (last_or k ks)
get_last k [] = refl
get_last k (j ∷ js) = get_last j js

stacked_last : (top : Level) (k : kept_level) (ks : List kept_level) (ls : List Level) →
    inner_of top (stacked ks (level_of k ∷ ls)) ≡ level_of (last_or k ks)
stacked_last top k [] ls = refl
stacked_last top k (j ∷ js) ls = stacked_last top j js (level_of k ∷ ls)

-- the label of the innermost action is that of the last one that is kept
pub label_some : (top : Level) (ks : List kept_level) (k : kept_level) → Some k ≡ slice_get ks (length ks - 1) →
    name k.label ≡ (let l = inner_of top (stacked ks []) in l.label)
label_some top [] k is = let never : Some k ≡ None = is in cc
label_some top (j ∷ js) k is =
    let last : k ≡ last_or j js = some_same k (last_or j js) (is
    ∙ ap (λ n. slice_get (j ∷ js) n) (let e : length (j ∷ js) - 1 ≡ length js = omega arith in e) ∙ get_last j js) in
    ap (λ l. name (let m = l in m.label)) last ∙ sym (ap (λ l. let m = l in m.label) (stacked_last top j js []))

pub last_more : (xs : List (List Statement)) (x : List Statement) (rest : Listing) →
    last_first (xs ++ x ∷ []) rest ≡ joined (listing_of x) (last_first xs rest)
last_more [] x rest = refl
last_more (y ∷ xs) x rest = last_more xs x (joined (listing_of y) rest)

pub joined_end : (a : Listing) → joined a End ≡ a
joined_end End = refl
joined_end (Do x op rest) = ap (Do x op) (joined_end rest)
joined_end (Print x op rest) = ap (Print x op) (joined_end rest)
joined_end (If x op answer first second rest) = ap (If x op answer first second) (joined_end rest)
joined_end (Block retry body rest) = ap (Block retry body) (joined_end rest)
joined_end (Fail rest) = ap Fail (joined_end rest)

pub and_nothing : {A : Type 0} → (xs : List A) → xs ++ [] ≡ xs
and_nothing xs = append-nil xs

pub pushed : (xs : List (Bor (List Statement))) (x : Bor (List Statement)) → rest_of (xs ++ x ∷ []) ≡ joined (listing_of x.now) (rest_of xs)
pushed xs x = ap (λ ls. last_first ls End) (map-append (λ r. r.now) xs (x ∷ [])) ∙ last_more (map (λ r. r.now) xs) x.now End

pub first_branch : (s : Statement) (answer : List ℕ) (x : ℕ) (op : Op) (wanted : Answer) (one two : Listing) →
    s ≡ statement.If x op wanted one two → bytes_eq answer (answer_text wanted) ≡ true →
    one ≡ branch s answer
first_branch s answer x op wanted one two is same =
    sym (ap (λ t. branch t answer) is ∙ ap (λ b. if b then one else two) same)

pub second_branch : (s : Statement) (answer : List ℕ) (x : ℕ) (op : Op) (wanted : Answer) (one two : Listing) →
    s ≡ statement.If x op wanted one two → bytes_eq answer (answer_text wanted) ≡ false →
    two ≡ branch s answer
second_branch s answer x op wanted one two is same =
    sym (ap (λ t. branch t answer) is ∙ ap (λ b. if b then one else two) same)

pub empty_popped : (xs : List (Bor (List Statement))) (x : Bor (List Statement)) (old : List (Bor (List Statement))) → old ≡ xs ++ x ∷ [] →
    length x.now ≡ 0 → rest_of xs ≡ rest_of old
empty_popped xs x old is none = sym (ap rest_of is ∙ pushed xs x ∙ ap (λ l. joined (listing_of l) (rest_of xs)) (nil x.now none))
  where
    nil : (l : List Statement) → length l ≡ 0 → l ≡ []
    nil [] e = refl
    nil (s ∷ ss) e = absurd (omega (arith, e))

pub front_cut : (xs : List (Bor (List Statement))) (x others : Bor (List Statement)) (old new : List (Bor (List Statement)))
    (s : Statement) → old ≡ xs ++ x ∷ [] → x.now ≡ s ∷ others.now → new ≡ xs ++ others ∷ []
    → cut (rest_of old) ≡ Some (s, rest_of new)
front_cut xs x others old new s was first now =
    ap (λ ls. cut (rest_of ls)) was ∙ ap cut (pushed xs x ∙ ap (λ l. joined (listing_of l) (rest_of xs)) first)
    ∙ cut_first s (listing_of others.now) (rest_of xs)
    ∙ ap (λ l. Some (s, l)) (sym (ap rest_of now ∙ pushed xs others))
  where
    cut_first : (t : Statement) (a b : Listing) → cut (joined (before t a) b) ≡ Some (t, joined a b)
    cut_first (statement.Do x op) a b = refl
    cut_first (statement.Print x op) a b = refl
    cut_first (statement.If x op wanted one two) a b = refl
    cut_first (statement.Block retry body) a b = refl
    cut_first statement.Fail a b = refl

pub none_stacked : (v : Vec kept_level Global) → vec_len v ≡ 0 → stacked v.items [] ≡ []
none_stacked v none = ap (λ ks. stacked ks []) (nil v.items (omega (arith, none)))
  where
    nil : (l : List kept_level) → length l ≡ 0 → l ≡ []
    nil [] e = refl
    nil (s ∷ ss) e = absurd (omega (arith, e))
