-- What a program has done so far is what its statements do alone.
use Rattle.std.proofs.Common.{◌≡◌, ◌∙◌, ℕ, List, [], ◌∷◌, ◌++◌, refl, ap, sym, subst, true, false, Bool, Some, None, Option, if◌then◌else◌}
use Rattle.std.proofs.Common.{append-nil}
use Rattle.std.proofs.lemmas.List.{append_assoc}
use Rattle.std.specs.Prelude.{⊤}
use Rattle.std.specs.Str.{bytes_eq}
use Rattle.arj_class.specs.Table.{answer_of}
use Rattle.arj_model.specs.Serial.{Values}
use Rattle.arj_prog.specs.Listing.{Listing, End, Do, Print, If, Block, Fail, joined}
use Rattle.arj_prog.specs.Meaning.{Failed, Gave, Made, Outcome, eval, followed, made, same_answer, values_behind, with_call, with_calls}
use Rattle.arj_prog.specs.declared.statements.Statement.{Statement}
use Rattle.arj_prog.specs.declared.statements.Statement.TheVariants as statement
use Rattle.arj_progrun.specs.Alone.{Answered, Means, Reaches, after_all, made_from}
use Rattle.arj_progrun.specs.Client.{Client, Level, Said, branch, cut, inner_of, joins, said_by, taken}
use Rattle.arj_progrun.specs.declared.phase.Phase.{Phase}
use Rattle.arj_progrun.specs.declared.phase.Phase.TheVariants as phase
use Rattle.arj_text.specs.Words.{answer_text}

-- ---- lists of calls

pub calls_joined : (ms ns : List Made) (o : Outcome) → with_calls (ms ++ ns) o ≡ with_calls ms (with_calls ns o)
calls_joined [] ns o = refl
calls_joined (m ∷ ms) ns o = ap (with_call m) (calls_joined ms ns o)

pub followed_call : (c : Made) (o : Outcome) (next : Values → Outcome) → followed (with_call c o) next ≡ with_call c (followed o next)
followed_call c Failed next = refl
followed_call c (Gave calls values) next = refl

pub followed_calls : (cs : List Made) (o : Outcome) (next : Values → Outcome) →
    followed (with_calls cs o) next ≡ with_calls cs (followed o next)
followed_calls [] o next = refl
followed_calls (c ∷ cs) o next = followed_call c (with_calls cs o) next ∙ ap (with_call c) (followed_calls cs o next)

pub followed_twice : (o : Outcome) (f g : Values → Outcome) → followed (followed o f) g ≡ followed o (λ v. followed (f v) g)
followed_twice Failed f g = refl
followed_twice (Gave calls values) f g = followed_calls calls (f values) g

-- ---- statements, one list behind another

pub eval_joined : (a b : Listing) (v : Values) → eval (joined a b) v ≡ followed (eval a v) (λ w. eval b w)
eval_joined End b v = refl
eval_joined (Do x op rest) b v =
    ap (with_call (made v x op false)) (eval_joined rest b (values_behind v x op))
    ∙ sym (followed_call (made v x op false) (eval rest (values_behind v x op)) (λ w. eval b w))
eval_joined (Print x op rest) b v =
    ap (with_call (made v x op true)) (eval_joined rest b (values_behind v x op))
    ∙ sym (followed_call (made v x op true) (eval rest (values_behind v x op)) (λ w. eval b w))
eval_joined (If x op answer first second rest) b v =
    let taken : Outcome =
    if same_answer (answer_of op (v x)) answer then eval first (values_behind v x op) else eval second (values_behind v x op) in
    ap (with_call (made v x op false)) ((λ i. followed taken (λ w. eval_joined rest b w i))
    ∙ sym (followed_twice taken (λ w. eval rest w) (λ w. eval b w)))
    ∙ sym (followed_call (made v x op false) (followed taken (λ w. eval rest w)) (λ w. eval b w))
eval_joined (Block retry body rest) b v =
    (λ i. followed (eval body v) (λ w. eval_joined rest b w i)) ∙ sym (followed_twice (eval body v) (λ w. eval rest w) (λ w. eval b w))
eval_joined (Fail rest) b v = refl

pub joined_end : (a : Listing) → joined a End ≡ a
joined_end End = refl
joined_end (Do x op rest) = ap (Do x op) (joined_end rest)
joined_end (Print x op rest) = ap (Print x op) (joined_end rest)
joined_end (If x op answer first second rest) = ap (If x op answer first second) (joined_end rest)
joined_end (Block retry body rest) = ap (Block retry body) (joined_end rest)
joined_end (Fail rest) = ap Fail (joined_end rest)

pub joined_twice : (a b c : Listing) → joined (joined a b) c ≡ joined a (joined b c)
joined_twice End b c = refl
joined_twice (Do x op rest) b c = ap (Do x op) (joined_twice rest b c)
joined_twice (Print x op rest) b c = ap (Print x op) (joined_twice rest b c)
joined_twice (If x op answer first second rest) b c = ap (If x op answer first second) (joined_twice rest b c)
joined_twice (Block retry body rest) b c = ap (Block retry body) (joined_twice rest b c)
joined_twice (Fail rest) b c = ap Fail (joined_twice rest b c)

-- ---- one call more

pub answered_front : (ss : List Said) (s : Said) (v : Values) → Answered v (ss ++ s ∷ []) →
    Answered v ss × (answer_text (answer_of s.op (after_all v ss s.x)) ≡ s.answer)
answered_front [] s v h = (tt, h.0)
answered_front (r ∷ ss) s v h = let t = answered_front ss s (values_behind v r.x r.op) h.1 in ((h.0, t.0), t.1)

pub after_more : (ss : List Said) (s : Said) (v : Values) → after_all v (ss ++ s ∷ []) ≡ values_behind (after_all v ss) s.x s.op
after_more [] s v = refl
after_more (r ∷ ss) s v = after_more ss s (values_behind v r.x r.op)

pub made_more : (ss : List Said) (s : Said) (v : Values) →
    made_from v (ss ++ s ∷ []) ≡ made_from v ss ++ made (after_all v ss) s.x s.op s.printed ∷ []
made_more [] s v = refl
made_more (r ∷ ss) s v = ap (λ ms. made v r.x r.op r.printed ∷ ms) (made_more ss s (values_behind v r.x r.op))

-- what one call more makes of what follows
abbrev pub Follows : Listing → Said → Listing → Type 0
Follows old s new = (w : Values) → answer_text (answer_of s.op (w s.x)) ≡ s.answer →
    eval old w ≡ with_call (made w s.x s.op s.printed) (eval new (values_behind w s.x s.op))

pub reaches_more : (body : Listing) (ss : List Said) (old : Listing) (s : Said) (new : Listing) → Reaches body ss old → Follows old s new →
    Reaches body (ss ++ s ∷ []) new
reaches_more body ss old s new reaches follows v h =
    let front = answered_front ss s v h in
    reaches v front.0
    ∙ ap (with_calls (made_from v ss)) (follows (after_all v ss) front.1)
    ∙ sym (calls_joined (made_from v ss) (made (after_all v ss) s.x s.op s.printed ∷ [])
    (eval new (values_behind (after_all v ss) s.x s.op)))
    ∙ (λ i. with_calls (sym (made_more ss s v) i) (eval new (sym (after_more ss s v) i)))

-- a statement that makes a call
abbrev pub IsCall : Statement → Type 0
IsCall (statement.Block retry body) = ⊥
IsCall statement.Fail = ⊥
IsCall _ = ⊤

-- a statement before others
abbrev pub before : Statement → Listing → Listing
before (statement.Do x op) rest = Do x op rest
before (statement.Print x op) rest = Print x op rest
before (statement.If x op answer first second) rest = If x op answer first second rest
before (statement.Block retry body) rest = Block retry body rest
before statement.Fail rest = Fail rest

branches : (b : Bool) (first second rest : Listing) (w : Values) →
    followed (if b then eval first w else eval second w) (λ u. eval rest u) ≡ eval (joined (if b then first else second) rest) w
branches true first second rest w = sym (eval_joined first rest w)
branches false first second rest w = sym (eval_joined second rest w)

pub goes_on : (s : Statement) (answer : List ℕ) (rest : Listing) → IsCall s →
    Follows (before s rest) (said_by s answer) (joined (branch s answer) rest)
goes_on (statement.Do x op) answer rest is w e = refl
goes_on (statement.Print x op) answer rest is w e = refl
goes_on (statement.If x op wanted first second) answer rest is w e =
    ap (with_call (made w x op false))
    ((λ i. followed (if bytes_eq (e i) (answer_text wanted) then eval first (values_behind w x op) else eval second (values_behind w x op))
    (λ u. eval rest u))
    ∙ branches (bytes_eq answer (answer_text wanted)) first second rest (values_behind w x op))
goes_on (statement.Block retry body) answer rest is w e = absurd is
goes_on statement.Fail answer rest is w e = absurd is

-- ---- a program's actions

-- the statements left, of the innermost action and of those that it is in
abbrev pub rest_in : Level → List Level → Listing
rest_in top [] = top.rest
rest_in top (b ∷ bs) = joined b.rest (rest_in top bs)

-- the calls that count if all of them commit
abbrev pub said_in : Level → List Level → List Said
said_in top [] = top.said
said_in top (b ∷ bs) = said_in top bs ++ b.said

-- so far it has done what its statements do alone
abbrev pub Here : Level → List Level → Type 0
Here top bs = Reaches top.body (said_in top bs) (rest_in top bs)

-- so it had where each of its nested actions began
abbrev pub Entries : Level → List Level → Type 0
Entries top [] = ⊤
Entries top (b ∷ bs) = Reaches top.body (said_in top bs) (joined b.body (rest_in top bs)) × Entries top bs

-- the action has done nothing
abbrev pub IsFresh : Level → Type 0
IsFresh l = (l.rest ≡ l.body) × (l.said ≡ [])

-- it waits for the call of this statement
abbrev pub CallsAt : Option Statement → Level → List Level → Type 0
CallsAt None top bs = ⊥
CallsAt (Some s) top bs = IsCall s × Reaches top.body (said_in top bs) (before s (rest_in top bs))

-- what holds where the program stands so
abbrev pub Goes : Phase → Option Statement → Level → List Level → Type 0
Goes phase.Entering asked top bs = IsFresh (inner_of top bs)
Goes phase.Beginning asked top bs = IsFresh (inner_of top bs)
Goes phase.Ready asked top bs = Here top bs
Goes phase.Committing asked top bs = Here top bs × ((let l = inner_of top bs in l.rest) ≡ End)
Goes phase.Calling asked top bs = CallsAt asked top bs
Goes phase.Committed asked top bs = Means top.body top.said
Goes _ asked top bs = ⊤

-- what holds of a program at any time
abbrev pub IsGood : Client → Type 0
IsGood c = Entries c.top c.blocks × Goes c.phase c.asked c.top c.blocks

pub fresh_is_here : (top : Level) (bs : List Level) → Entries top bs → IsFresh (inner_of top bs) → Here top bs
fresh_is_here top [] entries fresh v h =
    λ i. with_calls (made_from v (sym fresh.1 i)) (eval (sym fresh.0 i) (after_all v (sym fresh.1 i)))
fresh_is_here top (b ∷ bs) entries fresh v h =
    subst (λ said. Reaches top.body said (joined b.rest (rest_in top bs))) (sym (append-nil (said_in top bs))
    ∙ ap (λ said. said_in top bs ++ said) (sym fresh.1))
    (subst (λ rest. Reaches top.body (said_in top bs) (joined rest (rest_in top bs))) (sym fresh.0) entries.0) v h

-- the statements that were cut
abbrev pub uncut : Option (Statement × Listing) → Listing
uncut None = End
uncut (Some p) = before p.0 p.1

pub cut_back : (l : Listing) → uncut (cut l) ≡ l
cut_back End = refl
cut_back (Do x op rest) = refl
cut_back (Print x op rest) = refl
cut_back (If x op wanted first second rest) = refl
cut_back (Block retry body rest) = refl
cut_back (Fail rest) = refl

pub joined_before : (s : Statement) (a b : Listing) → joined (before s a) b ≡ before s (joined a b)
joined_before (statement.Do x op) a b = refl
joined_before (statement.Print x op) a b = refl
joined_before (statement.If x op wanted first second) a b = refl
joined_before (statement.Block retry body) a b = refl
joined_before statement.Fail a b = refl

-- the statements left behind the first one
pub passed : (top : Level) (bs : List Level) (s : Statement) (rest : Listing) → cut (let l = inner_of top bs in l.rest) ≡ Some (s, rest) →
    rest_in top bs ≡ before s (elim bs [ [] ↦ rest | b ∷ cs ↦ joined rest (rest_in top cs) ])
passed top [] s rest is = sym (cut_back top.rest) ∙ ap uncut is
passed top (b ∷ bs) s rest is =
    ap (λ l. joined l (rest_in top bs)) (sym (cut_back b.rest) ∙ ap uncut is) ∙ joined_before s rest (rest_in top bs)

pub block_entered : (body : Listing) (said : List Said) (retry : ℕ) (inside rest : Listing) → Reaches body said (Block retry inside rest) →
    Reaches body said (joined inside rest)
block_entered body said retry inside rest reaches v h = reaches v h
    ∙ ap (with_calls (made_from v said)) (sym (eval_joined inside rest (after_all v said)))

pub calls_end : (cs : List Made) (w : Values) → with_calls cs (Gave [] w) ≡ Gave cs w
calls_end [] w = refl
calls_end (c ∷ cs) w = ap (with_call c) (calls_end cs w)

pub here_means : (top : Level) → Here top [] → top.rest ≡ End → Means top.body top.said
here_means top here is v h =
    here v h ∙ (λ i. with_calls (made_from v top.said) (eval (is i) (after_all v top.said)))
    ∙ calls_end (made_from v top.said) (after_all v top.said)

-- ---- what is heard

pub answered_at : (top : Level) (bs : List Level) (s : Statement) (answer : List ℕ) → CallsAt (Some s) top bs
    → Here (elim bs [ [] ↦ taken s answer top | b ∷ cs ↦ top ]) (elim bs [ [] ↦ [] | b ∷ cs ↦ taken s answer b ∷ cs ])
answered_at top [] s answer at =
    reaches_more top.body top.said (before s top.rest) (said_by s answer) (joined (branch s answer) top.rest) at.1
    (goes_on s answer top.rest at.0)
answered_at top (b ∷ bs) s answer at =
    subst (λ said. Reaches top.body said (joined (joined (branch s answer) b.rest) (rest_in top bs)))
    (append_assoc (said_in top bs) b.said (said_by s answer ∷ []))
    (subst (λ rest. Reaches top.body ((said_in top bs ++ b.said) ++ said_by s answer ∷ []) rest)
    (sym (joined_twice (branch s answer) b.rest (rest_in top bs)))
    (reaches_more top.body (said_in top bs ++ b.said) (before s (joined b.rest (rest_in top bs))) (said_by s answer)
    (joined (branch s answer) (joined b.rest (rest_in top bs))) at.1
    (goes_on s answer (joined b.rest (rest_in top bs)) at.0)))

pub committed_at : (top b : Level) (bs : List Level) → Here top (b ∷ bs) → b.rest ≡ End
    → Here (elim bs [ [] ↦ joins b top | p ∷ ps ↦ top ]) (elim bs [ [] ↦ [] | p ∷ ps ↦ joins b p ∷ ps ])
committed_at top b [] here is = subst (λ rest. Reaches top.body (top.said ++ b.said) (joined rest top.rest)) is here
committed_at top b (p ∷ ps) here is =
    subst (λ said. Reaches top.body said (joined p.rest (rest_in top ps))) (append_assoc (said_in top ps) p.said b.said)
    (subst (λ rest. Reaches top.body ((said_in top ps ++ p.said) ++ b.said) (joined rest (joined p.rest (rest_in top ps)))) is here)
