use Rattle.jx_index.proofs.unique_names.repeated_name.Given as goal

abbrev pub ghosts-repeated_name_of : goal.ghosts-repeated_name_of
ghosts-repeated_name_of g a = record { bytes = a.text.now }
