-- A program leaves its next statement behind.
use Rattle.std.proofs.Common.{◌≡◌, ◌∙◌, List, [], ◌∷◌, ap, sym, Option, Some, None}
use Rattle.std.specs.Borrow.{Bor}
use Rattle.arj_prog.specs.Listing.{Listing, End}
use Rattle.arj_prog.specs.declared.statements.Statement.{Statement}
use Rattle.arj_progrun.specs.Client.{Client, Level, cut, inner_of, inside_at, leaves}
use Rattle.arj_progrun.specs.Levels.{IsFront, IsPassed}

pub pass_top : (c : Client) (found : Option (Bor Statement)) (top : Level) (rest : Listing) → c.blocks ≡ [] →
    IsFront (let t = c.top in t.rest) found rest → top ≡ leaves rest c.top →
    IsPassed c found (record c { top = top })
pass_top c None top rest none front is = (
  ap (λ bs. cut (let l = inner_of c.top bs in l.rest)) none ∙ ap cut front.0,
  ap (λ t. record c { top = t }) (is ∙ ap (λ r. leaves r c.top) front.1) ∙ ap (λ bs. inside_at bs (leaves End) c) (sym none),
)
pass_top c (Some s) top rest none front is = (
  rest,
  ap (λ bs. cut (let l = inner_of c.top bs in l.rest)) none ∙ front,
  ap (λ t. record c { top = t }) is ∙ ap (λ bs. inside_at bs (leaves rest) c) (sym none),
)

pub pass_block : (c : Client) (found : Option (Bor Statement)) (b new : Level) (bs : List Level) (rest : Listing) → c.blocks ≡ b ∷ bs →
    IsFront b.rest found rest → new ≡ leaves rest b →
    IsPassed c found (record c { blocks = new ∷ bs })
pass_block c None b new bs rest some front is = (
  ap (λ ls. cut (let l = inner_of c.top ls in l.rest)) some ∙ ap cut front.0,
  ap (λ l. record c { blocks = l ∷ bs }) (is ∙ ap (λ r. leaves r b) front.1) ∙ ap (λ ls. inside_at ls (leaves End) c) (sym some),
)
pass_block c (Some s) b new bs rest some front is = (
  rest,
  ap (λ ls. cut (let l = inner_of c.top ls in l.rest)) some ∙ front,
  ap (λ l. record c { blocks = l ∷ bs }) is ∙ ap (λ ls. inside_at ls (leaves rest) c) (sym some),
)
