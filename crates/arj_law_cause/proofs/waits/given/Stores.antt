-- What a giveup says of each node that it names: that a commit sent it a Prepare, or it gives up no commit, or ends it first of all.
use Rattle.arj_law_parts.proofs.Words
use Words.{◌≡◌, ◌⊎◌, ◌∙◌, ◌++◌, ◌&&◌, not, ℕ, Bool, true, false, List, [], ◌∷◌, Some, refl, sym, ap, subst, inl, inr, ⊎_elim}
use Words.{and_parts}
use Words.{append_assoc, list_all, In, Body, Cause, Event, Header, Label, Line, name}
use Words.{Now, Calling, Committing, Idle, Confirming, Preparing, Voting}
use Words.body
use Words.cause
use Words.commit
use Rattle.arj_law_parts.proofs.Terms.which
use Rattle.arj_law_serial.proofs.whole.CalledSays.{calls_commit}
use Rattle.arj_model.specs.Actions.{Act, act_in, acts}
use Rattle.arj_model.specs.Own.{MayMeetLimit}
use Rattle.arj_model.specs.Past.{Past}
use Rattle.arj_model.specs.Refusals.{is_committing}
use Rattle.arj_law_cause.proofs.follow.lines.Saying as saying
use Rattle.arj_law_cause.proofs.follow.lines.Saying.{Goes, Halts, Through}
use Rattle.arj_law_cause.proofs.follow.lines.Steps.{first_lines, given_up_of, lost_line}
use Rattle.arj_law_cause.proofs.follow.lines.Working.{works}
use Rattle.arj_law_cause.proofs.waits.given.{Asked.WasSent, Lines.gave, Others.Others, Others.is_other}
use Rattle.arj_law_cause.specs.kinds.Kinds.{is_node_given_up}

-- ---- what is said

-- The commit is ended before anything is excluded.
pub record EndsFirst (l : Label) (bodies : List Body) : Type 0 where
  pub front : List Body
  pub why : Cause
  pub rest : List Body
  pub are : bodies ≡ front ++ body.Aborted l why ∷ rest
  pub gave : list_all is_node_given_up front ≡ true

-- so it is of a line that names this node, behind these lines
pub record IsGivenSo (lines : List Line) (l : Label) (n : ℕ) (bodies : List Body) : Type 0 where
  pub act : Act
  pub named : act_in (acts lines) (name l) ≡ Some act
  pub uncalled : list_all (λ b. not (calls_commit b)) bodies ≡ true
  pub why : WasSent lines act.uid n ⊎ ((is_committing lines (name l) ≡ false) ⊎ EndsFirst l bodies)

abbrev pub StoresStep : Header → Past → Event → List Body → Type 0
StoresStep hd p e bodies = (l : Label) (n : ℕ) → In (body.GaveUp l n) bodies → IsGivenSo p.lines l n bodies

-- ---- lists

all_in : (T : Body → Bool) (bs : List Body) (b : Body) → list_all T bs ≡ true → In b bs → T b ≡ true
all_in T [] b all i = absurd i
all_in T (x ∷ xs) b all (inl same) = ap T (sym same) ∙ (and_parts (T x) (list_all T xs) all).0
all_in T (x ∷ xs) b all (inr i) = all_in T xs b (and_parts (T x) (list_all T xs) all).1 i

in_either : (xs ys : List Body) (b : Body) → In b (xs ++ ys) → In b xs ⊎ In b ys
in_either [] ys b i = inr i
in_either (x ∷ xs) ys b (inl same) = inl (inl same)
in_either (x ∷ xs) ys b (inr i) = ⊎_elim (λ l. inl (inr l)) (λ r. inr r) (in_either xs ys b i)

-- what names no node names none
pub none_stores : (hd : Header) (p : Past) (e : Event) (bodies : List Body) → Others bodies → StoresStep hd p e bodies
none_stores hd p e bodies none l n i =
    let no_way : false ≡ true = all_in is_other bodies (body.GaveUp l n) none i in absurd (cc no_way)

-- a node of a giveup's own lines
given_in : (l m : Label) (n : ℕ) (ns : List ℕ) → In (body.GaveUp m n) (gave l ns) → (l ≡ m) × In n ns
given_in l m n [] i = absurd i
given_in l m n (j ∷ ns) (inl same) =
    let one : body.GaveUp l j ≡ body.GaveUp m n = same in
    let who : l ≡ m = cc one in
    let which : j ≡ n = cc one in (who, inl which)
given_in l m n (j ∷ ns) (inr i) = let z = given_in l m n ns i in (z.0, inr z.1)

-- ---- lines of work

goes_all : (U : Body → Bool) → ((b : Body) → saying.fits works b ≡ true → U b ≡ true) → (k : ℕ) → U (body.Halted k) ≡ true →
    (bs : List Body) → Goes works k bs → list_all U bs ≡ true
goes_all U to k halts bs goes = by goes
  where
    each : (xs : List Body) → list_all (saying.fits works) xs ≡ true → list_all U xs ≡ true
    each [] all = refl
    each (b ∷ xs) all =
        let p = and_parts (saying.fits works b) (list_all (saying.fits works) xs) all in λ i. to b p.0 i && each xs p.1 i

    by : Goes works k bs → list_all U bs ≡ true
    by (Through all) = each bs all
    by (Halts front all is) = ap (list_all U) is ∙ saying.list_both U front (body.Halted k ∷ []) (each front all) (λ i. halts i && true)

work_other : (b : Body) → saying.fits works b ≡ true → is_other b ≡ true
work_other (body.GaveUp l n) is = absurd (cc is)
work_other b is = refl

work_uncalled : (b : Body) → saying.fits works b ≡ true → not (calls_commit b) ≡ true
work_uncalled (body.Committing l) is = absurd (cc is)
work_uncalled b is = refl

limit_all : (U : Body → Bool) → U (body.Limit which.Frames) ≡ true → (last : List Body) →
    MayMeetLimit last → list_all U last ≡ true
limit_all U its last (inl none) = ap (list_all U) none
limit_all U its last (inr met) = ap (list_all U) met ∙ (λ i. its i && true)

gave_uncalled : (l : Label) (ns : List ℕ) → list_all (λ b. not (calls_commit b)) (gave l ns) ≡ true
gave_uncalled l [] = refl
gave_uncalled l (n ∷ ns) = gave_uncalled l ns

gave_all : (l : Label) (ns : List ℕ) → list_all is_node_given_up (gave l ns) ≡ true
gave_all l [] = refl
gave_all l (n ∷ ns) = gave_all l ns

lost_all : (U : Body → Bool) → ((l : Label) (n : ℕ) → U (body.Aborted l (cause.Lost n)) ≡ true) → (l : Label) (z : Now) →
    list_all U (lost_line l z) ≡ true
lost_all U its l Idle = refl
lost_all U its l (Calling s) = refl
lost_all U its l (Committing (Voting p left)) = λ i. its l (commit.first_of left) i && true
lost_all U its l (Committing (Preparing p left)) = refl
lost_all U its l (Committing (Confirming p)) = λ i. its l 1 i && true

-- ---- a giveup

-- its lines, in which it says these first
pub record SaysFirst (l : Label) (z : Now) (k : ℕ) (bodies : List Body) : Type 0 where
  pub others : List Body
  pub last : List Body
  pub are : bodies ≡ (first_lines l z ++ others) ++ last
  pub goes : Goes works k others
  pub met : MayMeetLimit last

module _ (l : Label) (z : Now) (k : ℕ) (bodies : List Body) (s : SaysFirst l z k bodies) where
  whole : bodies ≡ gave l (given_up_of z) ++ (lost_line l z ++ (s.others ++ s.last))
  whole = s.are ∙ append_assoc (first_lines l z) s.others s.last
      ∙ append_assoc (gave l (given_up_of z)) (lost_line l z) (s.others ++ s.last)

  behind_all : (U : Body → Bool) → ((b : Body) → saying.fits works b ≡ true → U b ≡ true) → ((j : ℕ) → U (body.Halted j) ≡ true) →
      U (body.Limit which.Frames) ≡ true →
      ((m : Label) (n : ℕ) → U (body.Aborted m (cause.Lost n)) ≡ true) → list_all U (lost_line l z ++ (s.others ++ s.last)) ≡ true
  behind_all U to halts limits its = saying.list_both U (lost_line l z) (s.others ++ s.last) (lost_all U its l z)
      (saying.list_both U s.others s.last (goes_all U to k (halts k) s.others s.goes) (limit_all U limits s.last s.met))

  pub all_uncalled : list_all (λ b. not (calls_commit b)) bodies ≡ true
  all_uncalled = ap (list_all (λ b. not (calls_commit b))) whole
      ∙ saying.list_both (λ b. not (calls_commit b)) (gave l (given_up_of z)) (lost_line l z ++ (s.others ++ s.last))
      (gave_uncalled l (given_up_of z)) (behind_all (λ b. not (calls_commit b)) work_uncalled (λ j. refl) refl (λ m n. refl))

  pub named_so : (m : Label) (n : ℕ) → In (body.GaveUp m n) bodies → (l ≡ m) × In n (given_up_of z)
  named_so m n i = ⊎_elim (λ own. given_in l m n (given_up_of z) own)
      (λ rest. let no_way : false ≡ true = all_in is_other (lost_line l z ++ (s.others ++ s.last)) (body.GaveUp m n)
      (behind_all is_other work_other (λ j. refl) refl (λ x y. refl)) rest in absurd (cc no_way))
      (in_either (gave l (given_up_of z)) (lost_line l z ++ (s.others ++ s.last)) (body.GaveUp m n)
      (subst (In (body.GaveUp m n)) whole i))

  -- where it ends the commit it does so first
  pub ends_first : (c : Cause) → lost_line l z ≡ body.Aborted l c ∷ [] → EndsFirst l bodies
  ends_first c is = record {
    front = gave l (given_up_of z);
    why = c;
    rest = s.others ++ s.last;
    are = whole ∙ (λ i. gave l (given_up_of z) ++ (is i ++ (s.others ++ s.last)));
    gave = gave_all l (given_up_of z);
  }
