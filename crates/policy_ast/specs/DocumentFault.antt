-- Why a document has no tokens. The number is that of a line, counted from 1; the front matter is missed on line 1.
use Rattle.std.specs.Prelude.{ℕ}

pub data DocumentFault : Type 0 where
  NotUtf8 : ℕ → DocumentFault
  NoFrontMatter : DocumentFault
  WrongVersion : ℕ → DocumentFault
  OpenBlock : ℕ → DocumentFault
  BadToken : ℕ → DocumentFault
