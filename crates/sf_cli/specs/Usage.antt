-- The usage text: what is said of words that are no command.
-- The form of such a text is that of The Open Group, "Utility Conventions" (2018).
use Rattle.std.specs.Prelude.{◌++◌, codes}
use Rattle.sf_words.specs.Words.{Text}

-- the forms of all commands, also of those that aren't followed yet
abbrev pub usage_text : Text
usage_text =
    codes "usage: smallfoot verify FILE [--workers K]\n" ++ codes "       smallfoot recheck FILE PROOF\n"
    ++ codes "       smallfoot run FILE ENTRY STATE [--steps N] [--waits W]\n" ++ codes "       smallfoot demo N\n"
    ++ codes "       smallfoot replay FILE ENTRY STATE SCHEDULE\n"
    ++ codes "       smallfoot journal FILE ENTRY STATE [--steps N] [--waits W]\n"
    ++ codes "       smallfoot witness FILE\n" ++ codes "       smallfoot order FILE\n"
