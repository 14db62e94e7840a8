use Rattle.writing.proofs.Back.{only_texts}
use Rattle.writing.proofs.Forth.{every_plan}
use Rattle.writing.proofs.Lengths.{short_texts}
use Rattle.writing.proofs.reading_inverts_writing.Goals as goal

pub returns : goal.returns
returns c = record { only = only_texts; every = every_plan; short = short_texts }
