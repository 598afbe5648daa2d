-- What a coordinator's effects say.
use Rattle.arj_law_parts.proofs.Words
use Words.{◌≡◌, List, [], ◌∷◌, ◌++◌, Option, Some, refl, ap, Body, Label, Uid, Aborts, Asks, CommitStep, Decides, Stays, Coord, Doing}
use Words.{doing_of, Do, Effect, Say, Send, say_for, says}
use Rattle.arj_law_lock_view.proofs.Terms
use Terms.{bodies_of}
use Terms.body

pub bodies_app : (xs ys : List Effect) → bodies_of (xs ++ ys) ≡ bodies_of xs ++ bodies_of ys
bodies_app [] ys = refl
bodies_app (Say b ∷ xs) ys = ap (λ bs. b ∷ bs) (bodies_app xs ys)
bodies_app (Send to m ∷ xs) ys = bodies_app xs ys
bodies_app (Do w ∷ xs) ys = bodies_app xs ys

-- ---- lines

pub say_one : (u : Uid) (f : Label → Body) (c : Coord) (d : Doing) → doing_of u c ≡ Some d → bodies_of (says u f c) ≡ f d.label ∷ []
say_one u f c d works = ap (λ (o : Option Doing). bodies_of (say_for f o)) works

-- what a step of a commit says
abbrev pub said_by : CommitStep → Label → List Body
said_by (Stays m) l = []
said_by (Asks m) l = []
said_by (Decides p) l = body.Committed l ∷ []
said_by (Aborts why p) l = body.Aborted l why ∷ []
