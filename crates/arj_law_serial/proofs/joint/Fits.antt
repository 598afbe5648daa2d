-- Where the operations of a journal's answered calls on an object are in form.
use Rattle.arj_law_parts.proofs.Words
use Words.{◌≡◌, ◌+◌, ℕ, List, [], ◌∷◌, ◌++◌, subst, inl, inr, In, Body, Line}
use Words.body
use Rattle.arj_law_serial.proofs.Terms.{Act, Placed, acts_after, put, read, Said, said_of, OpTextInForm, OpFits, OpsFit}
use Rattle.arj_model.specs.Calls.{said}

-- they were so before
pub fits_before : (x : ℕ) (lines more : List Line) → OpsFit x (lines ++ more) → OpsFit x lines
fits_before x [] more fit = tt
fits_before x (l ∷ lines) more fit = (fit.0, fits_before x lines more fit.1)

read_fit : (x : ℕ) (us : List Act) (n : ℕ) (lines : List Line) → OpsFit x lines → (s : Placed Said) → In s (read said_of us n lines) →
    (let i = s.it in i.x) ≡ x → OpTextInForm (let i = s.it in i.op)
read_fit x us n [] fit s there of = absurd there
read_fit x us n (l ∷ lines) fit s there of =
    by l.body fit.0 there (λ later. read_fit x (acts_after us l.body) (n + 1) lines fit.1 s later of)
  where
    by : (b : Body) → OpFits x b → In s (put n (said_of us b) (read said_of (acts_after us l.body) (n + 1) lines)) → (In s
        (read said_of (acts_after us l.body) (n + 1) lines) → OpTextInForm (let i = s.it in i.op)) → OpTextInForm (let i = s.it in i.op)
    by (body.Ok k y op answer) fits (inl same) rest =
        subst (λ (z : Placed Said). (let i = z.it in i.x) ≡ x → OpTextInForm (let i = z.it in i.op)) same fits of
    by (body.Ok k y op answer) fits (inr later) rest = rest later
    by _ fits later rest = rest later

-- and so are those of the calls that the journal says
pub said_fit : (x : ℕ) (lines : List Line) → OpsFit x lines → (s : Placed Said) → In s (said lines) → (let i = s.it in i.x) ≡ x →
    OpTextInForm (let i = s.it in i.op)
said_fit x lines fit s there of = read_fit x [] 0 lines fit s there of
