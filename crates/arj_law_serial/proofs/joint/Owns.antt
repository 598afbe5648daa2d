-- What is carried with the machine's state may be counted on as it is kept: it is there before each handler.
use Rattle.arj_law_parts.proofs.Words.{Header, Seen, ℕ}
use Rattle.arj_law_serial.proofs.Terms.{World, Office, at, down, up, Kinds, KeepsPart}

pub own_part : (hd : Header) (x : ℕ) (R Z : World → Seen → Type 0) (P : Kinds → Office → Seen → Type 0) →
    ((tops : Kinds) (A : Office) (M : Seen) → P tops A M → Z A.world M) → KeepsPart hd x (λ W M. R W M × Z W M) P → KeepsPart hd x R P
own_part hd x R Z P own parts = record {
  quiet = λ tops e bs M A walk quiet r both p. parts.quiet tops e bs M A walk quiet (r, own tops A M p) both p;
  stop = λ tops e k d live M A walk r both p. parts.stop tops e k d live M A walk (r, own tops A (at k d live M) p) both p;
  message = λ tops e k d t v from m outs M A walk knows r sent meant is of owned both p.
      parts.message tops e k d t v from m outs M A walk knows (r, own tops A (up k d t M) p) sent meant is of owned both p;
  act = λ tops e k d t i M A walk knows r is free both p.
      parts.act tops e k d t i M A walk knows (r, own tops A (up k d t M) p) is free both p;
  begin = λ tops e k d t l how parent M A walk knows r new may free kind both p.
      parts.begin tops e k d t l how parent M A walk knows (r, own tops A (up k d t M) p) new may free kind both p;
  tick = λ tops e k d t M A walk knows r both p. parts.tick tops e k d t M A walk knows (r, own tops A (up k d t M) p) both p;
  restart = λ tops e k d M A walk r both p. parts.restart tops e k d M A walk (r, own tops A (down k d M) p) both p;
  first = parts.first;
}
