-- Writers: what objects' codes are written by.
use Rattle.std.specs.Prelude.{ℕ, List}
use Rattle.linker.specs.Tables.{objects_of, all_code}
use Rattle.linker.specs.Directories.{laid_by}
use Rattle.linker.specs.Fitting.{fitted_codes}
use Rattle.linker.specs.declared.writing.Writer.{Writer}

-- the codes that are written, and how many words they take
abbrev pub written_by : Writer → List ℕ
written_by w = fitted_codes (laid_by w.directory.now) (laid_by w.directory.now)

abbrev pub space_of : Writer → ℕ
space_of w = all_code (objects_of w.directory.now.laid.now)
