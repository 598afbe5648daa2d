-- Event by event: each line that something was lost stands in a giveup of its action.
use Rattle.arj_law_parts.proofs.Words
use Words.{◌≡◌, ◌∙◌, ◌+◌, ◌++◌, ℕ, List, [], ◌∷◌, sym, subst, AllByRecursion, Body, Event, Header}
use Words.body
use Rattle.arj_law_parts.specs.moves.Moments.{Moment}
use Rattle.arj_law_runs.proofs.follow.Refusing.{same_bodies}
use Rattle.arj_model.specs.Past.{Past, block}
use Rattle.arj_law_cause.proofs.waits.waiting.Along.{IsMoment, runs_give}
use Rattle.arj_law_cause.proofs.waits.lost.Fitting.{All, Fits, LinesFit, all_keep}
use Rattle.arj_law_cause.specs.waits.lost.Lost.{GiveupsLose, LostStep}

fits : (p : Past) (e : Event) (bodies : List Body) (M : Moment) → IsMoment p e bodies M → LinesFit M → AllByRecursion (Fits e) bodies
fits p e bodies M m h =
    let same : h.more ≡ bodies = sym (same_bodies (p.count + 1) bodies h.more p.lines
    (sym m.lines ∙ h.lines ∙ (λ i. m.first i ++ block (m.number i) h.more))) in
    subst (λ x. AllByRecursion (Fits x) bodies) m.event (subst (AllByRecursion (Fits M.past.event)) same h.fit)

pub refused_so : (hd : Header) (p : Past) (e : Event) (c : ℕ) → LostStep hd p e (body.Refused c ∷ [])
refused_so hd p e c = ((λ is. absurd (cc is)), tt)

pub gives : (hd : Header) (p : Past) (e : Event) (bodies : List Body) (M : Moment) → IsMoment p e bodies M → All hd M → LostStep hd p e bodies
gives hd p e bodies M m h = fits p e bodies M m h.1

pub giveups_lose : GiveupsLose
giveups_lose hd r form = runs_give hd form.header (All hd) (all_keep hd form.header) (LostStep hd) (refused_so hd) (gives hd) r form
