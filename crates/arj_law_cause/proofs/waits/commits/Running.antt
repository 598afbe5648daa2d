-- Event by event: each line that ends a commit is of one that is under way.
use Rattle.arj_law_parts.proofs.Words
use Words.{◌≡◌, ◌∙◌, ◌+◌, ◌++◌, ℕ, Bool, true, false, List, [], ◌∷◌, sym, subst, Body, Event, Header, Line, Start}
use Words.body
use Rattle.arj_law_parts.specs.moves.Moments.{Moment}
use Rattle.arj_law_runs.proofs.follow.Refusing.{same_bodies}
use Rattle.arj_model.specs.Past.{Asked as AskedOf, Past, asked_of, block}
use Rattle.arj_law_cause.proofs.waits.waiting.Along.{IsMoment, runs_give}
use Rattle.arj_law_cause.proofs.waits.commits.Fitting.{All, EndsFit, FitIn, LinesFit, all_keep}
use Rattle.arj_law_cause.specs.waits.commits.Commits.{CommitsEndWaits, CommitsFit, CommitsFitIn, CommitsStep, calls_commit}

-- what fits whatever was asked fits
all_fit : (st : Start) (acc : List AskedOf) (lines : List Line) (n : ℕ) (bs : List Body) → EndsFit lines n bs → CommitsFit st acc lines n bs
all_fit st acc lines n [] h = tt
all_fit st acc lines n (b ∷ bs) h = (h.0 st acc, all_fit st acc (lines ++ block n (b ∷ [])) n bs h.1)

step_fits : (st : Start) (acc : List AskedOf) (own : Bool) (lines : List Line) (n : ℕ) (bs : List Body) → FitIn own lines n bs →
    CommitsFitIn own st acc lines n bs
step_fits st acc false lines n bs h = all_fit st acc lines n bs h
step_fits st acc true lines n [] h = tt
step_fits st acc true lines n (b ∷ bs) h = all_fit st acc (lines ++ block n (b ∷ [])) n bs h

refused_fits : (st : Start) (acc : List AskedOf) (own : Bool) (lines : List Line) (n c : ℕ) →
    CommitsFitIn own st acc lines n (body.Refused c ∷ [])
refused_fits st acc true lines n c = tt
refused_fits st acc false lines n c = ((λ e. absurd (cc e)), tt)

fits : (hd : Header) (p : Past) (e : Event) (bodies : List Body) (M : Moment) → IsMoment p e bodies M → LinesFit M → CommitsStep hd p e bodies
fits hd p e bodies M m h =
    let same : h.more ≡ bodies = sym (same_bodies (p.count + 1) bodies h.more p.lines
    (sym m.lines ∙ h.lines ∙ (λ i. m.first i ++ block (m.number i) h.more))) in
    step_fits p.start (p.accepted ++ asked_of p e ∷ []) (calls_commit e) p.lines (p.count + 1) bodies
    (subst (λ x. FitIn (calls_commit x) p.lines (p.count + 1) bodies) m.event
    (subst (λ ls. FitIn (calls_commit M.past.event) ls (p.count + 1) bodies) m.first
    (subst (λ n. FitIn (calls_commit M.past.event) M.past.run.lines n bodies) m.number
    (subst (FitIn (calls_commit M.past.event) M.past.run.lines M.past.number) same h.fit))))

pub refused_so : (hd : Header) (p : Past) (e : Event) (c : ℕ) → CommitsStep hd p e (body.Refused c ∷ [])
refused_so hd p e c = refused_fits p.start (p.accepted ++ asked_of p e ∷ []) (calls_commit e) p.lines (p.count + 1) c

pub gives : (hd : Header) (p : Past) (e : Event) (bodies : List Body) (M : Moment) → IsMoment p e bodies M → All M → CommitsStep hd p e bodies
gives hd p e bodies M m h = fits hd p e bodies M m h.1

pub commits_end : CommitsEndWaits
commits_end hd r form = runs_give hd form.header All (all_keep hd) (CommitsStep hd) (refused_so hd) (gives hd) r form
