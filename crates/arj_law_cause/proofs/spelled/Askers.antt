-- Who asks began, and so did each action above him: by the lines that stand then.
use Rattle.arj_law_parts.proofs.Words
use Words.{◌⊎◌, ⊎_elim, inl, inr, ◌≡◌, ◌||◌, ◌++◌, Bool, true, false, List, [], ◌∷◌, Some, refl, sym, subst, arith, AllByRecursion, uid_eq, uid_is}
use Words.{uids_of, asks, Ask, Body, Contains, Head, In as Among, Kind, Line, Post, Seen, Uid, in_from, in_to}
use Words.body
use Words.kind
use Rattle.arj_base.specs.Uid.{UidFits, nobody}
use Rattle.arj_journal.specs.LineForm.{BodyInForm, LineInForm}
use Rattle.arj_law_parts.specs.parts.{Actions.AreBegun, Actions.Stands, Actions.act_of, Messages.IsAsker}
use Rattle.arj_law_promise.proofs.Terms
use Terms.{Action, In, all_append, all_each}
use Rattle.arj_law_promise.specs.rooms.Actions.{is_of_action}
use Rattle.arj_law_runs.proofs.calls.WorldVotes.{asker_of, fits_asked}
use Rattle.arj_law_runs.proofs.journal.Models.{book_acts}
use Rattle.arj_law_runs.specs.journal.{Book.new_book, Paths.AreAlike, Paths.IsAlike, Right.has_act}
use Rattle.arj_law_runs.specs.kept.Worlds.{IsGoodOf}
use Rattle.arj_law_cause.proofs.rows.Holders.{any_later, begun_act}
use Rattle.arj_model.specs.Actions.{Act, acts as acts_in, acts_after, acts_from}

-- ---- who began

-- an action with this Uid began by these lines
abbrev pub Began : List Line → Uid → Type 0
Began ls u = has_act (acts_in ls) u ≡ true

-- or it is nobody's
abbrev pub Such : List Line → Uid → Type 0
Such ls u = Began ls u ⊎ (u ≡ nobody)

pub began_on : (ls more : List Line) (u : Uid) → Began ls u → Began (ls ++ more) u
began_on ls more u began = any_later (λ (a : Act). uid_eq a.uid u) ls more began

pub such_on : (ls more : List Line) (u : Uid) → Such ls u → Such (ls ++ more) u
such_on ls more u such = ⊎_elim (λ began. inl (began_on ls more u began)) (λ is. inr is) such

-- ---- paths

abbrev IsActOf : List Action → Uid → Type 0
IsActOf acts u = (b : Action) × Among b acts × (act_of b ≡ u)

acts_more : (a : Action) (acts : List Action) (us : List Uid) → AllByRecursion (IsActOf acts) us → AllByRecursion (IsActOf (a ∷ acts)) us
acts_more a acts us all = all_each (IsActOf acts) (IsActOf (a ∷ acts)) us (λ u f. (f.0, inr f.1, f.2)) all

-- each action on the path of one that was begun
path_began : (acts : List Action) → AreBegun acts → (a : Action) → Among a acts → AllByRecursion (IsActOf acts) (uids_of a.path)
path_began [] all a i = absurd i
path_began (c ∷ acts) all a (inr i) = acts_more c acts (uids_of a.path) (path_began acts all.1 a i)
path_began (c ∷ acts) all a (inl is) = subst (λ (z : Action). AllByRecursion (IsActOf (c ∷ acts)) (uids_of z.path)) is
    (by (λ b i. path_began acts all.1 b i) c.kind (let b = all.0 in b.stands))
  where
    alone : uids_of c.path ≡ act_of c ∷ [] → AllByRecursion (IsActOf (c ∷ acts)) (uids_of c.path)
    alone path = subst (AllByRecursion (IsActOf (c ∷ acts))) (sym path) ((c, inl refl, refl), tt)

    below : ((b : Action) → Among b acts → AllByRecursion (IsActOf acts) (uids_of b.path)) → (b : Action) → Contains acts b →
        uids_of c.path ≡ uids_of b.path ++ act_of c ∷ [] → AllByRecursion (IsActOf (c ∷ acts)) (uids_of c.path)
    below older b there path = subst (AllByRecursion (IsActOf (c ∷ acts))) (sym path) (all_append (IsActOf (c ∷ acts)) (uids_of b.path)
        (act_of c ∷ []) (acts_more c acts (uids_of b.path) (older b (in_from b acts there))) ((c, inl refl, refl), tt))

    by : ((b : Action) → Among b acts → AllByRecursion (IsActOf acts) (uids_of b.path)) → (k : Kind) → Stands acts c k →
        AllByRecursion (IsActOf (c ∷ acts)) (uids_of c.path)
    by older kind.Nested s = below older s.0 s.1 s.3
    by older kind.Constituent s = below older s.0 s.1 s.3
    by older kind.Top s = alone s.0
    by older kind.Serial s = alone s.0
    by older kind.Independent s = alone s.0

-- each action on the path of who asked
pub askers_began : (M : Seen) → IsAlike M → (p : Post) (h : Head) (a : Ask) → In p M.sent → asks p.message ≡ Some (h, a) →
    AllByRecursion (Such M.lines) (uids_of h.path)
askers_began M its p h a there is = path_such
  where
    begun : List Action
    begun = its.0

    good : IsGoodOf its.0 M
    good = let a = its in a.1.0

    alike : AreAlike its.0 (acts_in M.lines)
    alike = subst (AreAlike its.0) (book_acts new_book M.lines) (let a = its in a.1.1)

    who : IsAsker its.0 h.path
    who = asker_of its.0 h a (fits_asked its.0 p.message h a is (good.fits p there))

    path_such : AllByRecursion (Such M.lines) (uids_of h.path)
    path_such = subst (λ q. AllByRecursion (Such M.lines) (uids_of q)) who.2
        (all_each (IsActOf its.0) (Such M.lines) (uids_of (let b = who.0 in b.path)) (λ u f. inl (subst (λ w. Began M.lines w) f.2
        (begun_act its.0 (acts_in M.lines) alike f.0 (in_to f.0 its.0 f.1))))
        (path_began its.0 (let z = good in z.begun) who.0 (in_from who.0 its.0 who.1)))

-- ---- Uids

-- each action that began has a Uid in form
abbrev pub HaveUids : List Line → Type 0
HaveUids ls = (u : Uid) → Began ls u → UidFits u

pub fewer_uids : (ls more : List Line) → HaveUids (ls ++ more) → HaveUids ls
fewer_uids ls more all u began = all u (began_on ls more u began)

pub such_fits : (ls : List Line) → HaveUids ls → (u : Uid) → Such ls u → UidFits u
such_fits ls all u (inl began) = all u began
such_fits ls all u (inr is) = subst UidFits (sym is) (omega arith, omega arith, omega arith)

abbrev ActFits : Act → Type 0
ActFits a = UidFits a.uid

-- actions that began before, and one that a line begins
after_fits : (xs : List Act) (b : Body) → (is_of_action b ≡ true → BodyInForm b) → AllByRecursion ActFits xs →
    AllByRecursion ActFits (acts_after xs b)
after_fits xs (body.Began l k u p) form all = let f = form refl in (f.1, all)
after_fits xs b form all = all

acts_fit : (xs : List Act) (lines : List Line) → AllByRecursion ActFits xs →
    AllByRecursion (λ (line : Line). is_of_action line.body ≡ true → LineInForm line) lines → AllByRecursion ActFits (acts_from xs lines)
acts_fit xs [] all forms = all
acts_fit xs (line ∷ lines) all forms =
    acts_fit (acts_after xs line.body) lines (after_fits xs line.body (λ is. (forms.0 is).1) all) forms.1

began_fits : (xs : List Act) (u : Uid) → AllByRecursion ActFits xs → has_act xs u ≡ true → UidFits u
began_fits [] u all is = absurd (cc is)
began_fits (a ∷ xs) u all is = by (uid_eq a.uid u) refl is (began_fits xs u all.1)
  where
    by : (b : Bool) → uid_eq a.uid u ≡ b → (b || has_act xs u) ≡ true → (has_act xs u ≡ true → UidFits u) → UidFits u
    by true same here rest = subst UidFits (uid_is a.uid u same) all.0
    by false other later rest = rest later

-- so it is where the lines of actions are in form
pub lines_have_uids : (ls : List Line) → AllByRecursion (λ (line : Line). is_of_action line.body ≡ true → LineInForm line) ls → HaveUids ls
lines_have_uids ls forms u began = began_fits (acts_in ls) u (acts_fit [] ls tt forms) began
