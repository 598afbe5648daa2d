-- A listing told as a list, front first, so that the proofs can tell listings apart.
use Rattle.std.specs.Prelude.{ℕ, List, [], ◌∷◌, ◌++◌, ◌≡◌, refl}
use Rattle.std.specs.Coded.{Coded, code_by}
use Rattle.std.proofs.Common.{◌∙◌, ap, sym}
use Rattle.std.proofs.lemmas.List.{append_assoc, append-nil}
use Rattle.arj_class.specs.declared.op.Op.{Op}
use Rattle.arj_class.specs.declared.op.Answer.{Answer}
use Rattle.arj_prog.specs.Listing.{Listing, End, Do, Print, If, Block, Fail}

-- What one statement says, without the lists in it.
pub data Token : Type 0 where
  Ends : Token
  Does : (x : ℕ) (op : Op) → Token
  Prints : (x : ℕ) (op : Op) → Token
  Asks : (x : ℕ) (op : Op) (answer : Answer) → Token
  Tries : (retry : ℕ) → Token
  Fails : Token

-- the lists in a statement, and then what follows it, stand behind it
abbrev pub tokens : Listing → List Token
tokens End = Ends ∷ []
tokens (Do x op rest) = Does x op ∷ tokens rest
tokens (Print x op rest) = Prints x op ∷ tokens rest
tokens (If x op answer first second rest) = Asks x op answer ∷ (tokens first ++ (tokens second ++ tokens rest))
tokens (Block retry body rest) = Tries retry ∷ (tokens body ++ tokens rest)
tokens (Fail rest) = Fails ∷ tokens rest

-- one statement before the listings that were read behind it
abbrev pub build : Token → List Listing → List Listing
build Ends ls = End ∷ ls
build (Does x op) (rest ∷ ls) = Do x op rest ∷ ls
build (Prints x op) (rest ∷ ls) = Print x op rest ∷ ls
build (Asks x op answer) (first ∷ second ∷ rest ∷ ls) = If x op answer first second rest ∷ ls
build (Tries retry) (body ∷ rest ∷ ls) = Block retry body rest ∷ ls
build Fails (rest ∷ ls) = Fail rest ∷ ls
build _ ls = ls

-- the listings that the tokens tell, one after another
abbrev pub read : List Token → List Listing
read [] = []
read (t ∷ ts) = build t (read ts)

-- the first of them
abbrev pub first_of : List Listing → Listing
first_of [] = End
first_of (l ∷ ls) = l

pub read_tokens : (l : Listing) (ts : List Token) → read (tokens l ++ ts) ≡ l ∷ read ts
read_tokens End ts = refl
read_tokens (Do x op rest) ts = ap (build (Does x op)) (read_tokens rest ts)
read_tokens (Print x op rest) ts = ap (build (Prints x op)) (read_tokens rest ts)
read_tokens (If x op answer first second rest) ts =
    ap (λ us. read (Asks x op answer ∷ us)) (append_assoc (tokens first) (tokens second ++ tokens rest) ts ∙ ap (λ us. tokens first ++ us) (append_assoc (tokens second) (tokens rest) ts))
    ∙ ap (build (Asks x op answer)) (read_tokens first (tokens second ++ (tokens rest ++ ts)) ∙ ap (λ ls. first ∷ ls) (read_tokens second (tokens rest ++ ts) ∙ ap (λ ls. second ∷ ls) (read_tokens rest ts)))
read_tokens (Block retry body rest) ts =
    ap (λ us. read (Tries retry ∷ us)) (append_assoc (tokens body) (tokens rest) ts)
    ∙ ap (build (Tries retry)) (read_tokens body (tokens rest ++ ts) ∙ ap (λ ls. body ∷ ls) (read_tokens rest ts))
read_tokens (Fail rest) ts = ap (build Fails) (read_tokens rest ts)

pub back : (l : Listing) → first_of (read (tokens l)) ≡ l
back l = ap (λ us. first_of (read us)) (sym (append-nil (tokens l))) ∙ ap first_of (read_tokens l [])

-- a listing is stored as its tokens
abbrev pub listing_code : Coded (List Token) → Coded Listing
listing_code code = code_by (List Token) code tokens (λ ts. first_of (read ts)) back
