-- What refuses the words of a command line.
use Rattle.clap.specs.Words.{IsAmong, Kinds, kind_of}
use Rattle.clap.specs.declared.error.kind.ErrorKind.TheVariants.{DisplayVersion}
use Rattle.cli_words.specs.declared.arg_fault.ArgFault.{ArgFault}
use Rattle.cli_words.specs.declared.arg_fault.ArgFault.TheVariants.{NoMemory, Version, Words}

-- the words are refused by one of these kinds, or ask for the version, or memory was refused
abbrev pub IsRefusedBy : Kinds → ArgFault → Type 0
IsRefusedBy kinds (Words error) = IsAmong (kind_of error) kinds
IsRefusedBy kinds Version = IsAmong DisplayVersion kinds
IsRefusedBy kinds NoMemory = Unit {0}
