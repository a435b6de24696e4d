-- The file of `--output`, FILE: what the program does to files, as far as it opens any for writing.
use Rattle.std.specs.Prelude.{◌≡◌, ◌≤◌, ◌⊎◌, ℕ, Bool, true, false, List, [], length, take, IfSome, Option, Result, Ok, Err}
use Rattle.std.specs.Io.KnownBytes.{Appends}

-- what became of FILE, whose name is known once it is opened
pub data Stage : Type 0 where
  -- no file was opened for writing
  untouched : Stage
  -- FILE is as it was. A new file beside it is open for writing; the flag says whether all that it received is on the disk
  beside : (is_synced : Bool) → (name : List ℕ) → Stage
  -- FILE is the new file, which was on the disk before or not
  replaced : (is_synced : Bool) → (name : List ℕ) → Stage
  -- FILE can't be replaced. It is itself open for writing; it was emptied, unless its name is that of a descriptor
  emptied : (name : List ℕ) → Stage

-- the stage after a write: what was written isn't on the disk yet
abbrev pub unsynced : Stage → Stage
unsynced untouched = untouched
unsynced (beside is_synced name) = beside false name
unsynced (replaced is_synced name) = replaced is_synced name
unsynced (emptied name) = emptied name

-- the stage after all that was written reached the disk
abbrev pub synced : Stage → Stage
synced untouched = untouched
synced (beside is_synced name) = beside true name
synced (replaced is_synced name) = replaced is_synced name
synced (emptied name) = emptied name

-- the stage after the new file took FILE's name
abbrev pub renamed : Stage → Stage
renamed untouched = untouched
renamed (beside is_synced name) = replaced is_synced name
renamed (replaced is_synced name) = replaced is_synced name
renamed (emptied name) = emptied name

module _ {T : Type 0} (stage : T → Stage) (received : T → Option (List ℕ)) where
  -- nothing has happened
  abbrev pub Keeps : T → T → Type 0
  Keeps old new = (stage new ≡ stage old) × (received new ≡ received old)

  -- a new file beside FILE is open, or FILE itself, and is empty
  pub record IsOpened (name : List ℕ) (old new : T) : Type 0 where
    pub first : stage old ≡ untouched
    pub opened : (stage new ≡ beside false name) ⊎ (stage new ≡ emptied name)
    pub empty : IfSome (received new) (λ all. all ≡ [])

  -- the open file received these bytes
  pub record Receives (bytes : List ℕ) (old new : T) : Type 0 where
    pub appended : Appends (received old) (received new) bytes
    pub next : stage new ≡ unsynced (stage old)

  module _ {A E : Type 0} where
    -- the effect of `open`
    abbrev pub Opens : List ℕ → T → T → Result A E → Type 0
    Opens name old new (Ok a) = IsOpened name old new
    Opens name old new (Err e) = Keeps old new

    -- the effect of `write`: all bytes, or some, were accepted
    abbrev pub Writes : List ℕ → T → T → Result A E → Type 0
    Writes bytes old new (Ok a) = Receives bytes old new
    Writes bytes old new (Err e) = (n : ℕ) × (n ≤ length bytes) × Receives (take n bytes) old new

    -- the effect of `sync`
    abbrev pub Syncs : T → T → Result A E → Type 0
    Syncs old new (Ok a) = (stage new ≡ synced (stage old)) × (received new ≡ received old)
    Syncs old new (Err e) = Keeps old new

    -- the effect of `replace`
    abbrev pub Replaces : T → T → Result A E → Type 0
    Replaces old new (Ok a) = (stage new ≡ renamed (stage old)) × (received new ≡ received old)
    Replaces old new (Err e) = Keeps old new

  -- the open file is on the disk, and then got FILE's name
  abbrev pub IsCommitted : T → T → Type 0
  IsCommitted old new = (stage new ≡ renamed (synced (stage old))) × (received new ≡ received old)

  -- one of these calls failed: it has not got FILE's name
  abbrev pub IsCommittedInPart : T → T → Type 0
  IsCommittedInPart old new = ((stage new ≡ stage old) ⊎ (stage new ≡ synced (stage old))) × (received new ≡ received old)

  -- these calls were made, one after the other: the open file has all bytes, is on the disk, and has FILE's name
  pub record IsPut (bytes : List ℕ) (old new : T) : Type 0 where
    pub appended : Appends (received old) (received new) bytes
    pub next : stage new ≡ renamed (synced (unsynced (stage old)))

  -- one of them failed, and none was made after it
  pub record IsPutInPart (bytes : List ℕ) (old new : T) : Type 0 where
    pub n : ℕ
    pub appended : Appends (received old) (received new) (take n bytes)
    pub next : (stage new ≡ unsynced (stage old)) ⊎ (stage new ≡ synced (unsynced (stage old)))

  -- FILE has exactly these bytes: it was replaced by a new file that had them and was on the disk; or it couldn't be replaced
  pub record IsStored (name bytes : List ℕ) (old new : T) : Type 0 where
    pub empty : T
    pub opened : IsOpened name old empty
    pub appended : Appends (received empty) (received new) bytes
    pub last : (stage new ≡ replaced true name) ⊎ (stage new ≡ emptied name)

  -- FILE is as it was; or it couldn't be replaced, and has a prefix of these bytes
  pub record IsUnstored (name bytes : List ℕ) (old new : T) : Type 0 where
    pub empty : T
    pub opened : IsOpened name old empty
    pub n : ℕ
    pub appended : Appends (received empty) (received new) (take n bytes)
    pub last : ((is_synced : Bool) × (stage new ≡ beside is_synced name)) ⊎ (stage new ≡ emptied name)
