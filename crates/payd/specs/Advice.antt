-- What is said about a fault after its line.
use Rattle.std.specs.Prelude.{Bool, true, false, ℕ, List, codes}
use Rattle.std.specs.declared.io.ErrorKind.{ErrorKind}
use Rattle.std.specs.declared.io.ErrorKind.TheVariants as kind
use Rattle.pay_frame.specs.declared.engine.EngineFault.TheVariants as engine
use Rattle.payd.specs.declared.stop.Stop.{Stop}
use Rattle.payd.specs.declared.stop.Stop.TheVariants as stop

-- why the system refused a file, a folder, a port or a socket, as far as it gives a reason
abbrev pub reason_words : ErrorKind → List ℕ
reason_words kind.NotFound = codes "there is no such file or folder"
reason_words kind.PermissionDenied = codes "you may not"
reason_words kind.AlreadyExists = codes "another file has this name"
reason_words kind.AddrInUse = codes "another program has it"
reason_words kind.NotADirectory = codes "a part of its path is no folder"
reason_words kind.IsADirectory = codes "it is a folder"
reason_words kind.FileTooLarge = codes "no file may be so long"
reason_words kind.StorageFull = codes "the disk is full"
reason_words kind.QuotaExceeded = codes "your share of the disk is full"
reason_words kind.ReadOnlyFilesystem = codes "the disk may only be read"
reason_words kind.FilesystemLoop = codes "links of its path lead in a circle"
reason_words kind.InvalidFilename = codes "no file can have this name"
reason_words kind.OutOfMemory = codes "memory ran out"
reason_words _ = codes "the system doesn't say why"

-- Whether more is said about a fault than its line. All faults have more, except those with lines
-- that say which words are right, and those that have their lines already.
abbrev pub has_advice : Stop → Bool
has_advice (stop.Engine (engine.Frame fault)) = false
has_advice (stop.Forgets why) = false
has_advice stop.New = false
has_advice stop.Stay = false
has_advice (stop.LongSocket path) = false
has_advice (stop.Descriptors limit needed) = false
has_advice (stop.Parts name) = false
has_advice (stop.Control place) = false
has_advice (stop.Dials word) = false
has_advice (stop.Ahead word) = false
has_advice stop.Forms = false
has_advice (stop.Date word) = false
has_advice _ = true
