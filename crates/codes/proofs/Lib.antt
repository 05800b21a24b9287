mod Last
