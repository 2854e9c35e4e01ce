-- How a connection ends: after which exchanges, with what at the rest, and with what written.
use Rattle.std.specs.Prelude.{◌≡◌, ℕ, true, List, [], ◌∷◌, ◌++◌, Option, None, false}
use Rattle.zot_head.specs.Front.{Refusal}
use Rattle.zot_session.specs.declared.cut.Cut.{Cut}
use Rattle.zot_session.specs.declared.end.End.{End}
use Rattle.zot_session.specs.declared.end.End.TheVariants as ends
use Rattle.zot_session.specs.declared.send_error.SendError.{SendError}
use Rattle.zot_session.specs.Cuts.{HasCut, end_of}
use Rattle.zot_session.specs.Exchanges.{Exchange, StayOpen, closes, output, spelled}
use Rattle.zot_session.specs.Messages.{IsPartial, IsRefused, Owes, refused_as, refusal_status}
use Rattle.zot_session.specs.Sending.{IsPart, end_unsent}
use Rattle.zot_spell.specs.Spelling.{reply_bytes}

-- the bytes of the refusal that closes the connection
abbrev pub closing_bytes : Refusal → List ℕ
closing_bytes why = reply_bytes None (refused_as why) false true

-- all that is written after the last exchange: what is owed, and where what stands there is refused, the refusal
pub data Says (rest : List ℕ) (text : List ℕ) : Type 0 where
  owed : Owes rest text → Says rest text
  refused : (why : Refusal) (before : List ℕ) → IsRefused rest why → Owes rest before → text ≡ before ++ closing_bytes why → Says rest text

-- no more bytes came while less than a message stood at the rest; what is owed there was written
pub record EndsCut (end : End) (taken : ℕ) (rest : List ℕ) (left : Option (List ℕ)) (text : List ℕ) : Type 0 where
  pub cut : Cut
  pub partial : IsPartial rest
  pub owed : Owes rest text
  pub cause : HasCut cut taken left
  pub end_is : end ≡ end_of cut rest

-- what stands at the rest was refused
pub record EndsRefused (end : End) (rest text : List ℕ) : Type 0 where
  pub why : Refusal
  pub before : List ℕ
  pub is_refused : IsRefused rest why
  pub owed : Owes rest before
  pub text_is : text ≡ before ++ closing_bytes why
  pub end_is : end ≡ ends.Refused (refusal_status why)

-- of the text that had to be written a part was
pub record EndsUnsent (end : End) (whole text : List ℕ) : Type 0 where
  pub error : SendError
  pub part : IsPart text whole
  pub end_is : end ≡ end_unsent error

-- How a connection ends after exchanges that leave it open: of how many bytes were taken, the rest, what is left, and what was written after the exchanges.
-- Memory may run out before anything is written.
pub data EndsAfter (end : End) (taken : ℕ) (rest : List ℕ) (left : Option (List ℕ)) (text : List ℕ) : Type 0 where
  cut_short : EndsCut end taken rest left text → EndsAfter end taken rest left text
  refused_there : EndsRefused end rest text → EndsAfter end taken rest left text
  unsent : (whole : List ℕ) → Says rest whole → EndsUnsent end whole text → EndsAfter end taken rest left text
  unread : text ≡ [] → end ≡ ends.NoMemory → EndsAfter end taken rest left text

-- How a connection ends with an exchange, of which so much was written.
pub data EndsWith (end : End) (exchange : Exchange) (text : List ℕ) : Type 0 where
  closed : closes exchange ≡ true → text ≡ spelled exchange → end ≡ ends.Closed → EndsWith end exchange text
  unsent_last : EndsUnsent end (spelled exchange) text → EndsWith end exchange text

-- How a connection ends: after exchanges that leave it open, or with the last of them, which all others leave open.
pub data Ending (end : End) (taken : ℕ) (exchanges : List Exchange) (rest : List ℕ) (left : Option (List ℕ)) (sent : List ℕ) : Type 0 where
  after : (text : List ℕ) → StayOpen exchanges → sent ≡ output exchanges ++ text → EndsAfter end taken rest left text → Ending end taken exchanges rest left sent
  with_last : (earlier : List Exchange) (last : Exchange) (text : List ℕ) → exchanges ≡ earlier ++ last ∷ [] → StayOpen earlier → sent ≡ output earlier ++ text → EndsWith end last text
      → Ending end taken exchanges rest left sent
