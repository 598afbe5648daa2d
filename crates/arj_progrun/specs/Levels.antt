-- Programs as the code keeps them, seen as the definitions have them.
use Rattle.std.specs.Prelude.{◌≡◌, List, [], ◌∷◌, map, Option, Some, None}
use Rattle.std.specs.Borrow.{Bor}
use Rattle.arj_prog.specs.declared.statements.Statement.{Statement}
use Rattle.arj_prog.specs.Listing.{Listing, End, joined}
use Rattle.arj_prog.specs.Listed.{listing_of}
use Rattle.arj_progrun.specs.Client.{Client, Level, Said, cut, inner, inside, leaves, said_by}
use Rattle.arj_progrun.specs.declared.client.Client.{Client as kept_client}
use Rattle.arj_progrun.specs.declared.level.Heard.{Heard}
use Rattle.arj_progrun.specs.declared.level.Level.{Level as kept_level}
use Rattle.arj_text.specs.Label.{name}

-- lists of statements, the last one first, before these
abbrev pub last_first : List (List Statement) → Listing → Listing
last_first [] rest = rest
last_first (l ∷ ls) rest = last_first ls (joined (listing_of l) rest)

-- the statements left in lists, the last one first
abbrev pub rest_of : List (Bor (List Statement)) → Listing
rest_of rest = last_first (map (λ r. r.now) rest) End

-- what was found, as it is
abbrev pub found_now : Option (Bor Statement) → Option Statement
found_now None = None
found_now (Some s) = Some s.now

-- This was found at the front of statements, and these are left.
abbrev pub IsFront : Listing → Option (Bor Statement) → Listing → Type 0
IsFront old None new = (old ≡ End) × (new ≡ End)
IsFront old (Some s) new = cut old ≡ Some (s.now, new)

-- an answered call as it is kept
abbrev pub said_of : Heard → Said
said_of h = said_by h.statement.now h.answer

-- an action as it is kept
abbrev pub level_of : kept_level → Level
level_of l = record {
  label = name l.label;
  body = listing_of l.body.now;
  rest = rest_of l.rest.items;
  left = l.left;
  said = map said_of l.said.items;
}

-- actions as they are kept, the last one first, before these
abbrev pub stacked : List kept_level → List Level → List Level
stacked [] ls = ls
stacked (k ∷ ks) ls = stacked ks (level_of k ∷ ls)

-- a program as it is kept
abbrev pub client_of : kept_client → Client
client_of c = record {
  name = (let p = c.program.now in p.name);
  number = c.number;
  node = (let p = c.program.now in p.node);
  retry = (let p = c.program.now in p.retry);
  top = level_of c.top;
  blocks = stacked c.blocks.items [];
  begun = c.begun;
  phase = c.phase;
  asked = found_now c.asked;
  waited = c.waited;
}

-- The next statement of its innermost action was left behind, and is this.
abbrev pub IsPassed : Client → Option (Bor Statement) → Client → Type 0
IsPassed old None new = (cut (let l = inner old in l.rest) ≡ None) × (new ≡ inside (leaves End) old)
IsPassed old (Some s) new = (rest : Listing) × (cut (let l = inner old in l.rest) ≡ Some (s.now, rest)) × (new ≡ inside (leaves rest) old)
